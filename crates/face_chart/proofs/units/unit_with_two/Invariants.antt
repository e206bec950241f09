use Rattle.std.proofs.Common.{take}
use Rattle.std.specs.Prelude.{All}
use Rattle.ntfe_model.specs.Charts.{spot_numbers, IsUnit}
use Rattle.face_chart.proofs.units.unit_with_two.Given as goal

abbrev pub invariant-loop-c : goal.invariant-loop-c
invariant-loop-c l = All (λ c. ¬ (IsUnit l.table l.a l.b c)) (take l.c-index (spot_numbers l.table))
