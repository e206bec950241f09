use Rattle.two_faces.specs.Meets.{IsSecond}
use Rattle.two_faces.proofs.MeetLemmas.{none_from}
use Rattle.two_faces.proofs.meet.is_first.Goals as goal

pub returns-then-is_on_both-clause-when_false : goal.returns-then-is_on_both-clause-when_false
returns-then-is_on_both-clause-when_false c = λ t h. none_from (IsSecond c.args.m.now c.args.n.now c.args.vertices.now c.args.a.now) c.args.vertices.now (c.has_second.ensures.when_false t) h.second
