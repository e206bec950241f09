use Rattle.std.proofs.Common.{◌<◌, ℕ, get_or}
use Rattle.ntfe_model.specs.declared.nogood.Part.{Part}
use Rattle.farkas_check.proofs.parts.are_rising.Given as goal

abbrev pub invariant-loop-i : goal.invariant-loop-i
invariant-loop-i l = (j k : ℕ) (p : Part) → j < k → k < l.i → (get_or l.parts j p).face < (get_or l.parts k p).face
