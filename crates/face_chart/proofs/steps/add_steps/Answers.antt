use Rattle.std.proofs.Common.{◌∙◌, sym, ap, arith, ◌<◌, length, get_or}
use Rattle.ntfe_model.specs.Charts.{spot_numbers}
use Rattle.face_chart.proofs.StepLemmas.{from_start, from_more, from_end, pair_step, pair_none}
use Rattle.face_chart.proofs.steps.add_steps.Goals as goal
use Rattle.face_chart.proofs.steps.add_steps.Goals.{then-is_step+in_ok-push, else-is_step}

pub loop-b-init : goal.loop-b-init
loop-b-init c = from_start c.args.table.now c.args.a (spot_numbers c.args.table.now) c.args.steps.now.items

pub loop-b-preserved : goal.loop-b-preserved
loop-b-preserved c =
    let g = c.args.table.now in
    let ks = c.points-b-items.result.now in
    let ls = spot_numbers g in
    let n = c.loop-b.b-index in
    let e = c.points-b-items.ensures in
    let f = ap (λ ms. get_or ms n 0) e in
    let l : n < length ls = (let m = ap length e in let t = c.loop-b-test.true in omega (arith, m, t)) in
    from_more g c.args.a ls n c.args.steps.now.items c.loop-b.steps.items c.if-is_step.steps.items c.requires.rising l c.loop-b.invariant
    (elim c.if-is_step.branch [
      | then-is_step+in_ok-push w ↦
          pair_step g c.args.a (get_or ks n 0) (get_or ls n 0) c.loop-b.steps.items c.if-is_step.steps.items f (c.is_step.ensures.when_true w.if-is_step.true) (ap (λ u. u.items) w.steps-is ∙ w.in_ok-push.ensures.items)
      | else-is_step w ↦
          pair_none g c.args.a (get_or ks n 0) (get_or ls n 0) c.loop-b.steps.items c.if-is_step.steps.items f (c.is_step.ensures.when_false w.if-is_step.false) (sym (ap (λ u. u.items) w.steps-is))
    ])

pub returns : goal.returns
returns c =
    let g = c.args.table.now in
    let e = c.points-b-items.ensures in
    from_end g c.args.a (spot_numbers g) c.loop-b.b-index c.args.steps.now.items c.loop-b.steps.items (λ i. spot_numbers g)
    (let m = ap length e in let t = c.loop-b-test.false in omega (arith, m, t)) c.loop-b.invariant
