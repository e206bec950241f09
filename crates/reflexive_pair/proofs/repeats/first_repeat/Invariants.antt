use Rattle.std.proofs.Common.{ℕ, ◌<◌, length}
use Rattle.reflexive_pair.specs.Firsts.{DiffersBelow}
use Rattle.reflexive_pair.proofs.repeats.first_repeat.Given as goal

abbrev pub invariant-loop-i : goal.invariant-loop-i
invariant-loop-i l = (k : ℕ) → k < l.i → DiffersBelow l.list k (length l.list)
