use Rattle.std.proofs.Common.{take}
use Rattle.std.specs.Prelude.{All}
use Rattle.ntfe_model.specs.Charts.{spot_numbers}
use Rattle.face_chart.specs.Units.{IsReached}
use Rattle.face_chart.proofs.units.is_unit.Given as goal

abbrev pub invariant-loop-p : goal.invariant-loop-p
invariant-loop-p l = All (IsReached l.table l.a l.b l.c) (take l.p-index (spot_numbers l.table))
