use Rattle.fine_stream.proofs.Finding.{when_true, when_false}
use Rattle.fine_stream.proofs.Standing.{find_none, find_item}
use Rattle.fine_stream.proofs.find.find.Goals as goal

pub returns-then-not-branch-clause-answer : goal.returns-then-not-branch-clause-answer
returns-then-not-branch-clause-answer c =
    find_none c.args.chart.now c.args.position.now c.points-points.ensures.apart (when_false c.in_ok-go_on.field-0 _ _ c.if-not-branch.true c.in_ok-go_on.ensures.answer)

pub returns-clause-answer : goal.returns-clause-answer
returns-clause-answer c =
    find_item c.args.chart.now c.args.position.now (record { item = c.in_ok-item.item; path = c.go_on.new.path }) c.points-points.ensures.apart c.in_ok-item.ensures.word c.in_ok-item.ensures.triangles
    (when_true c.in_ok-go_on.field-0 _ _ c.if-not-branch.false c.in_ok-go_on.ensures.answer)
