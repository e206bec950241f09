use Rattle.std.proofs.Common.{ℕ, inl, inr, refl}
use Rattle.fine_stream.specs.Paths.{AreInConflict}
use Rattle.fine_stream.proofs.Parts.{second_side, third_side, each_side}
use Rattle.fine_stream.proofs.sides.has_conflict.Goals as goal

pub conflict-requires-2-clause-second : goal.conflict-requires-2-clause-second
conflict-requires-2-clause-second c = second_side c.args.chart.now c.args.u.now.a c.args.u.now.b c.args.u.now.c c.requires.second

pub returns-then-conflict-2-clause-when_true : goal.returns-then-conflict-2-clause-when_true
returns-then-conflict-2-clause-when_true c = λ e. (c.args.u.now.b, c.args.u.now.c, inr (inl (refl, refl)), c.conflict-2.ensures.when_true c.if-conflict-2.true)

pub conflict-requires-3-clause-second : goal.conflict-requires-3-clause-second
conflict-requires-3-clause-second c = third_side c.args.chart.now c.args.u.now.a c.args.u.now.b c.args.u.now.c c.requires.second

pub returns-clause-when_true : goal.returns-clause-when_true
returns-clause-when_true c = λ e. (c.args.u.now.c, c.args.u.now.a, inr (inr (refl, refl)), c.conflict-3.ensures.when_true e)

pub returns-clause-when_false : goal.returns-clause-when_false
returns-clause-when_false c =
    λ e. each_side (λ (z w : ℕ). ¬ (AreInConflict c.args.chart.now c.args.x c.args.y z w)) c.args.u.now (c.conflict.ensures.when_false c.if-conflict.false)
    (c.conflict-2.ensures.when_false c.if-conflict-2.false) (c.conflict-3.ensures.when_false e)
