use Rattle.std.proofs.Common.{◌≡◌, ◌++◌, take}
use Rattle.std.specs.Prelude.{string_bytes, flat_map, decimal}
use Rattle.ntfe_model.specs.RunText.{spaced}
use Rattle.class_text.proofs.numbers.append_numbers.Given as goal

abbrev pub invariant-loop-n : goal.invariant-loop-n
invariant-loop-n l = string_bytes l.text ≡ string_bytes l.fn.text ++ flat_map (λ n. spaced (decimal n)) (take l.n-index l.numbers)
