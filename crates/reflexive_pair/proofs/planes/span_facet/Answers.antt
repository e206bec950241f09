use Rattle.std.proofs.Common.{⊎_elim}
use Rattle.ntfe_nums.specs.Vectors.{vector}
use Rattle.reflexive_pair.proofs.SideLemmas.{by_heights, none_above, none_below}
use Rattle.reflexive_pair.proofs.planes.span_facet.Goals as goal

pub returns-then-has_none_above-clause-one_side : goal.returns-then-has_none_above-clause-one_side
returns-then-has_none_above-clause-one_side c = λ t.
    none_above c.args.a.now c.args.b.now c.args.c.now c.args.d.now (vector c.normal_of-n.result) c.normal_of-n.ensures.value c.args.list.now
    (c.has_none_above.ensures.when_true c.if-has_none_above.true)

pub returns-clause-one_side : goal.returns-clause-one_side
returns-clause-one_side c = λ t.
    none_below c.args.a.now c.args.b.now c.args.c.now c.args.d.now (vector c.normal_of-n.result) c.normal_of-n.ensures.value c.args.list.now
    (c.has_none_below.ensures.when_true t)

pub returns-clause-when_false : goal.returns-clause-when_false
returns-clause-when_false c = λ t independent one_side.
    ⊎_elim (c.has_none_above.ensures.when_false c.if-has_none_above.false) (c.has_none_below.ensures.when_false t)
    (by_heights c.args.a.now c.args.b.now c.args.c.now c.args.d.now (vector c.normal_of-n.result) c.normal_of-n.ensures.value c.args.list.now one_side)
