use Rattle.fine_stream.proofs.Parts.{crossing_conflict, no_conflict_turns}
use Rattle.fine_stream.proofs.sides.conflict.Goals as goal

pub returns-then-not-separates-clause-when_false : goal.returns-then-not-separates-clause-when_false
returns-then-not-separates-clause-when_false c =
    λ e. no_conflict_turns c.args.chart.now c.requires.apart c.args.x c.args.y c.args.z c.args.w c.requires.first c.requires.second (c.are_one.ensures.when_false c.if-are_one.false)
    (λ p q. c.separates.ensures.when_false c.if-not-separates.true p)

pub returns-clause-when_true : goal.returns-clause-when_true
returns-clause-when_true c =
    λ e. crossing_conflict c.args.chart.now c.requires.apart c.args.x c.args.y c.args.z c.args.w c.requires.first c.requires.second (c.are_one.ensures.when_false c.if-are_one.false)
    (c.are_one-2.ensures.when_false c.if-are_one-2.false) (c.separates.ensures.when_true c.if-not-separates.false) (c.separates-2.ensures.when_true e)

pub returns-clause-when_false : goal.returns-clause-when_false
returns-clause-when_false c =
    λ e. no_conflict_turns c.args.chart.now c.requires.apart c.args.x c.args.y c.args.z c.args.w c.requires.first c.requires.second (c.are_one.ensures.when_false c.if-are_one.false)
    (λ p q. c.separates-2.ensures.when_false e q)
