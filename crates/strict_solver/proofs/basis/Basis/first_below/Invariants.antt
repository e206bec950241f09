use Rattle.std.proofs.Common.{◌≡◌, ℕ, ◌<◌, ◌≤ℤ◌, pos, Some}
use Rattle.std.specs.Prelude.{slice_get}
use Rattle.ntfe_model.specs.declared.nogood.Fold.{Fold}
use Rattle.strict_solver.specs.Standing.{constant_of}
use Rattle.strict_solver.proofs.basis.Basis.first_below.Given as goal

abbrev pub invariant-loop-j : goal.invariant-loop-j
invariant-loop-j l = (i : ℕ) (f : Fold) → i < l.j → slice_get l.folds i ≡ Some f → pos 0 ≤ℤ constant_of l.self f
