use Rattle.std.proofs.Common.{◌≡◌, ◌++◌, [], ◌∷◌, take, length, flat_map, string_bytes}
use Rattle.ntfe_model.specs.RunText.{number_line, vector_line}
use Rattle.pair_text.proofs.writing.append_list.Given as goal

-- the count line and the lines of the vectors so far
abbrev pub invariant-loop-vector : goal.invariant-loop-vector
invariant-loop-vector l =
    string_bytes l.text ≡ string_bytes l.fn.text ++ (number_line l.word (length l.vectors ∷ []) ++ flat_map vector_line (take l.vector-index l.vectors))
