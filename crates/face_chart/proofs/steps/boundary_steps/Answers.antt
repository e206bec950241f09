use Rattle.std.proofs.Common.{◌≡◌, sym, ap, subst, arith, ℕ, ◌<◌, List, [], length, get_or}
use Rattle.std.specs.Prelude.{Contains}
use Rattle.ntfe_model.specs.Charts.{spot_numbers}
use Rattle.face_chart.specs.Steps.{AddsSteps}
use Rattle.face_chart.proofs.StepLemmas.{upto_start, upto_more, upto_end}
use Rattle.face_chart.proofs.steps.boundary_steps.Goals as goal

pub loop-a-init : goal.loop-a-init
loop-a-init c =
    let g = c.args.table.now in
    subst (λ (es : List (ℕ × ℕ)). AddsSteps g (λ j k. Contains [] j) [] es) (sym c.new-steps.ensures.items) (upto_start g (spot_numbers g) [])

pub loop-a-preserved : goal.loop-a-preserved
loop-a-preserved c =
    let g = c.args.table.now in
    let ls = spot_numbers g in
    let n = c.loop-a.a-index in
    let e = c.points-a-items.ensures in
    let l : n < length ls = (let m = ap length e in let t = c.loop-a-test.true in omega (arith, m, t)) in
    upto_more g ls n [] c.loop-a.steps.items c.add_steps.new.steps.items c.requires.rising l c.loop-a.invariant
    (subst (λ (i : ℕ). AddsSteps g (λ j k. j ≡ i) c.loop-a.steps.items c.add_steps.new.steps.items) (ap (λ ms. get_or ms n 0) e) c.in_ok-add_steps.ensures)

pub returns : goal.returns
returns c =
    let g = c.args.table.now in
    let e = c.points-a-items.ensures in
    upto_end g (spot_numbers g) c.loop-a.a-index c.loop-a.steps.items (λ i. spot_numbers g)
    (let m = ap length e in let t = c.loop-a-test.false in omega (arith, m, t)) c.loop-a.invariant
