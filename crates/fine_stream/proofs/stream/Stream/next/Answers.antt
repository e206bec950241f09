use Rattle.fine_stream.proofs.Standing.{cursor_end, cursor_next, answer_end, answer_next}
use Rattle.fine_stream.proofs.stream.Stream.next.Goals as goal

pub invariant_of-self-in-Some : goal.invariant_of-self-in-Some
invariant_of-self-in-Some c =
    cursor_next c.self.inside.chart c.self.inside.position c.prepare-kept.new.tables c.in_ok-find.field-0 c.in-Some.field-0 c.in_ok-word-in-Some.word c.in_ok-find.ensures.answer c.in-Some.is c.in_ok-word-in-Some.ensures
    c.self.invariant.cursor c.prepare-kept.ensures.tables c.in_ok-find.ensures.placed

pub returns-in-None-clause-answer : goal.returns-in-None-clause-answer
returns-in-None-clause-answer c = answer_end c.self.inside.chart c.self.inside.position c.args.self.now c.in_ok-find.field-0 c.self.view_is c.in_ok-find.ensures.answer c.in-None.is

pub returns-in_ok-word-in-Some-clause-answer : goal.returns-in_ok-word-in-Some-clause-answer
returns-in_ok-word-in-Some-clause-answer c =
    answer_next c.self.inside.chart c.self.inside.position c.args.self.now c.in_ok-find.field-0 c.in-Some.field-0 c.in_ok-word-in-Some.word c.self.view_is c.in_ok-find.ensures.answer c.in-Some.is
    c.in_ok-word-in-Some.ensures

pub invariant_of-self-in-None : goal.invariant_of-self-in-None
invariant_of-self-in-None c =
    cursor_end c.self.inside.chart c.self.inside.position c.prepare-kept.new.tables c.in_ok-find.field-0 c.take-kept.new.self c.in_ok-find.ensures.answer c.in-None.is c.self.invariant.cursor
    c.prepare-kept.ensures.tables c.take-kept.ensures.after
