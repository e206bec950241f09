use Rattle.std.proofs.Common.{◌≡◌, map}
use Rattle.std.specs.List.{range_with_len}
use Rattle.choice_board.specs.Starts.{key_past}
use Rattle.choice_board.proofs.start.keys_past.Given as goal

abbrev pub invariant-loop-place : goal.invariant-loop-place
invariant-loop-place l = l.keys.items ≡ map (key_past l.start) (range_with_len 0 l.place)
