use Rattle.std.proofs.Common.{inl, inr, refl}
use Rattle.ntfe_nums.proofs.Comparisons.{not_false, not_true}
use Rattle.fine_stream.proofs.Parts.{second_side, third_side, compatible_sides}
use Rattle.fine_stream.proofs.Separations.{compatible_back}
use Rattle.fine_stream.proofs.sides.are_compatible.Goals as goal

pub returns-then-is_beyond_side-clause-when_true : goal.returns-then-is_beyond_side-clause-when_true
returns-then-is_beyond_side-clause-when_true c = λ e. compatible_back c.args.chart.now c.args.t.now c.args.u.now (c.is_beyond_side.ensures c.if-is_beyond_side.true)

pub returns-then-has_conflict-clause-when_false : goal.returns-then-has_conflict-clause-when_false
returns-then-has_conflict-clause-when_false c =
    λ e p. let k = c.has_conflict.ensures.when_true c.if-has_conflict.true in p.apart c.args.t.now.a c.args.t.now.b k.0 k.1 (inl (refl, refl)) k.2 k.3

pub has_conflict-requires-2-clause-first : goal.has_conflict-requires-2-clause-first
has_conflict-requires-2-clause-first c = second_side c.args.chart.now c.args.t.now.a c.args.t.now.b c.args.t.now.c c.requires.first

pub returns-then-has_conflict-2-clause-when_false : goal.returns-then-has_conflict-2-clause-when_false
returns-then-has_conflict-2-clause-when_false c =
    λ e p. let k = c.has_conflict-2.ensures.when_true c.if-has_conflict-2.true in p.apart c.args.t.now.b c.args.t.now.c k.0 k.1 (inr (inl (refl, refl))) k.2 k.3

pub has_conflict-requires-3-clause-first : goal.has_conflict-requires-3-clause-first
has_conflict-requires-3-clause-first c = third_side c.args.chart.now c.args.t.now.a c.args.t.now.b c.args.t.now.c c.requires.first

pub returns-clause-when_true : goal.returns-clause-when_true
returns-clause-when_true c =
    λ e. compatible_sides c.args.chart.now c.args.t.now c.args.u.now (c.has_conflict.ensures.when_false c.if-has_conflict.false)
    (c.has_conflict-2.ensures.when_false c.if-has_conflict-2.false) (c.has_conflict-3.ensures.when_false (not_true c.has_conflict-3.result e))

pub returns-clause-when_false : goal.returns-clause-when_false
returns-clause-when_false c =
    λ e p. let k = c.has_conflict-3.ensures.when_true (not_false c.has_conflict-3.result e) in p.apart c.args.t.now.c c.args.t.now.a k.0 k.1 (inr (inr (refl, refl))) k.2 k.3
