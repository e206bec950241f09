use Rattle.std.proofs.Common.{◌≡◌, drop, map}
use Rattle.ntfe_model.specs.Solver.{first_wide}
use Rattle.strict_solver.specs.Rows.{number_at}
use Rattle.strict_solver.proofs.row.first_wide_number.Given as goal

abbrev pub invariant-loop-place : goal.invariant-loop-place
invariant-loop-place l =
    first_wide l.width (map (number_at l.numbers) l.places) ≡ first_wide l.width (map (number_at l.numbers) (drop l.place-index l.places))
