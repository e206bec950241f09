use Rattle.std.proofs.Common.{ℕ, take}
use Rattle.std.specs.Prelude.{All}
use Rattle.ntfe_model.specs.Charts.{spot_numbers, IsUnit}
use Rattle.face_chart.proofs.units.unit_with.Given as goal

abbrev pub invariant-loop-b : goal.invariant-loop-b
invariant-loop-b l = All (λ b. (c : ℕ) → ¬ (IsUnit l.table l.a b c)) (take l.b-index (spot_numbers l.table))
