use Rattle.two_faces.specs.Meets.{IsThird}
use Rattle.two_faces.proofs.MeetLemmas.{none_from}
use Rattle.two_faces.proofs.meet.is_second.Goals as goal

pub returns-then-is_on_both-clause-when_false : goal.returns-then-is_on_both-clause-when_false
returns-then-is_on_both-clause-when_false c = λ t h. none_from (IsThird c.args.m.now c.args.n.now c.args.a.now c.args.b.now) c.args.vertices.now (c.has_third.ensures.when_false t) h.third
