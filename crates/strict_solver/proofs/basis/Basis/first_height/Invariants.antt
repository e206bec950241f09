use Rattle.std.proofs.Common.{◌≡◌, ℕ, ◌<◌, pos, Some}
use Rattle.std.specs.Prelude.{slice_get}
use Rattle.strict_solver.specs.declared.place.Place.TheVariants.{Column}
use Rattle.strict_solver.specs.Standing.{fold_sum, cell_at}
use Rattle.strict_solver.proofs.basis.Basis.first_height.Given as goal

abbrev pub invariant-loop-k : goal.invariant-loop-k
invariant-loop-k l = (j p : ℕ) → j < l.k → slice_get l.self.places.items j ≡ Some (Column p) → fold_sum (cell_at l.self.columns l.self.cells.items p) l.fold ≡ pos 0
