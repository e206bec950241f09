use Rattle.fine_stream.proofs.Standing.{start_points, start_part, start_answer, whole_of, after_answer, end_answer}
use Rattle.fine_stream.proofs.find.go_on.Goals as goal

pub add_first-requires-clause-points : goal.add_first-requires-clause-points
add_first-requires-clause-points c = start_points c.args.chart.now c.args.position.now c.args.path.now c.in-Start.is c.requires.path

pub add_first-requires-clause-part : goal.add_first-requires-clause-part
add_first-requires-clause-part c = start_part c.args.chart.now c.args.position.now c.args.path.now c.in-Start.is c.requires.path

pub returns-in_ok-found-in-Start-clause-answer : goal.returns-in_ok-found-in-Start-clause-answer
returns-in_ok-found-in-Start-clause-answer c =
    start_answer c.args.chart.now c.args.position.now c.in_ok-found-in-Start.found c.args.path.now c.add_first.new.path c.in-Start.is c.requires.path c.in_ok-found-in-Start.ensures.answer

pub advance-requires-clause-path : goal.advance-requires-clause-path
advance-requires-clause-path c = (whole_of c.args.chart.now c.args.position.now c.in-After.field-0 c.args.path.now c.in-After.is c.requires.path).0

pub returns-in_ok-found-in-After-clause-answer : goal.returns-in_ok-found-in-After-clause-answer
returns-in_ok-found-in-After-clause-answer c =
    after_answer c.args.chart.now c.args.position.now c.in-After.field-0 c.in_ok-found-in-After.found c.args.path.now c.advance.new.path c.in-After.is c.requires.path c.in_ok-found-in-After.ensures.answer

pub returns-in-End-clause-answer : goal.returns-in-End-clause-answer
returns-in-End-clause-answer c = end_answer c.args.chart.now c.boundary-boundary.result.now c.args.position.now c.boundary-boundary.ensures c.in-End.is
