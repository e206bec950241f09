use Rattle.std.proofs.Common.{◌∙◌, sym, ap}
use Rattle.fold_rows.proofs.SideLemmas.{around_more, around_same}
use Rattle.fold_rows.proofs.sides.around.Goals as goal
use Rattle.fold_rows.proofs.sides.around.Goals.{then-has_point+in_ok-push, else-has_point}

pub loop-t-preserved : goal.loop-t-preserved
loop-t-preserved c =
    let ts = c.args.triangles.now in
    let i = c.loop-t.t-index in
    elim c.if-has_point.branch [
      | then-has_point+in_ok-push w ↦ around_more ts c.loop-t.near.items c.if-has_point.near.items i _ c.args.a c.loop-t-test.true (ap (λ v. v.items) w.near-is ∙ w.in_ok-push.ensures.items) c.loop-t.invariant
      | else-has_point w ↦ around_same ts c.loop-t.near.items c.if-has_point.near.items i _ c.args.a c.loop-t-test.true (sym (ap (λ v. v.items) w.near-is)) (c.has_point.ensures.when_false w.if-has_point.false) c.loop-t.invariant
    ]
