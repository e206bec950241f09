use Rattle.two_faces.proofs.PlaneLemmas.{no_plane}
use Rattle.two_faces.proofs.plane.span_plane.Goals as goal

pub returns-clause-when_false : goal.returns-clause-when_false
returns-clause-when_false c = λ t.
    no_plane c.args.a.now c.args.b.now c.args.c.now (c.has_area.ensures.when_false c.if-has_area.false) (c.has_area-2.ensures.when_false c.if-has_area-2.false) (c.has_area-3.ensures.when_false c.if-has_area-3.false)
    (c.has_area-4.ensures.when_false c.if-has_area-4.false) (c.has_area-5.ensures.when_false c.if-has_area-5.false) (c.has_area-6.ensures.when_false t)
