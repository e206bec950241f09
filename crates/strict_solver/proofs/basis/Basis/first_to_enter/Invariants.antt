use Rattle.std.proofs.Common.{◌≡◌, ℕ, ◌<◌, ◌≤◌, ◌≤ℤ◌, pos, Some}
use Rattle.std.specs.Prelude.{slice_get}
use Rattle.strict_solver.specs.declared.place.Place.TheVariants.{Column}
use Rattle.strict_solver.specs.Rows.{number}
use Rattle.strict_solver.proofs.basis.Basis.first_to_enter.Given as goal

abbrev pub invariant-loop-y : goal.invariant-loop-y
invariant-loop-y l = (j p : ℕ) → l.self.columns ≤ j → j < l.y → slice_get l.self.places.items j ≡ Some (Column p) → number l.self.line.items p ≤ℤ pos 0
