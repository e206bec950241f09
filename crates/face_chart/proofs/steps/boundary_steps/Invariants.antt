use Rattle.std.proofs.Common.{[], take}
use Rattle.std.specs.Prelude.{Contains}
use Rattle.ntfe_model.specs.Charts.{spot_numbers}
use Rattle.face_chart.specs.Steps.{AddsSteps}
use Rattle.face_chart.proofs.steps.boundary_steps.Given as goal

abbrev pub invariant-loop-a : goal.invariant-loop-a
invariant-loop-a l = AddsSteps l.table (λ j k. Contains (take l.a-index (spot_numbers l.table)) j) [] l.steps.items
