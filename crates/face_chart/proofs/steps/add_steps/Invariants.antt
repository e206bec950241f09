use Rattle.std.proofs.Common.{◌≡◌, take}
use Rattle.std.specs.Prelude.{Contains}
use Rattle.ntfe_model.specs.Charts.{spot_numbers}
use Rattle.face_chart.specs.Steps.{AddsSteps}
use Rattle.face_chart.proofs.steps.add_steps.Given as goal

abbrev pub invariant-loop-b : goal.invariant-loop-b
invariant-loop-b l = AddsSteps l.table (λ j k. (j ≡ l.a) × Contains (take l.b-index (spot_numbers l.table)) k) l.initial.steps.items l.steps.items
