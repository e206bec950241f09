use Rattle.std.proofs.Common.{◌∙◌, sym}
use Rattle.two_faces.proofs.MeetLemmas.{tight_from}
use Rattle.two_faces.proofs.meet.is_on_both.Goals as goal

pub returns-then-is_tight-clause-when_true : goal.returns-then-is_tight-clause-when_true
returns-then-is_tight-clause-when_true c = λ t. record {
  first = tight_from c.args.m.now c.args.x.now (sym c.is_tight.ensures.test ∙ c.if-is_tight.true);
  second = tight_from c.args.n.now c.args.x.now (sym c.is_tight-then-is_tight.ensures.test ∙ t);
}
