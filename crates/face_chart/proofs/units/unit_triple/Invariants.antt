use Rattle.std.proofs.Common.{ℕ, take}
use Rattle.std.specs.Prelude.{All}
use Rattle.ntfe_model.specs.Charts.{spot_numbers, IsUnit}
use Rattle.face_chart.proofs.units.unit_triple.Given as goal

abbrev pub invariant-loop-a : goal.invariant-loop-a
invariant-loop-a l = All (λ a. (b c : ℕ) → ¬ (IsUnit l.table a b c)) (take l.a-index (spot_numbers l.table))
