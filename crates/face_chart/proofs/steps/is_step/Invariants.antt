use Rattle.std.proofs.Common.{take}
use Rattle.std.specs.Prelude.{All}
use Rattle.ntfe_model.specs.Charts.{spot_numbers}
use Rattle.face_chart.specs.Steps.{IsClear}
use Rattle.face_chart.proofs.steps.is_step.Given as goal

abbrev pub invariant-loop-p : goal.invariant-loop-p
invariant-loop-p l = All (IsClear l.table l.a l.b) (take l.p-index (spot_numbers l.table))
