use Rattle.class_text.proofs.Cuts.{some_left}
use Rattle.class_text.proofs.fields.Fields.are_done.Goals as goal

pub returns-clause-when_false : goal.returns-clause-when_false
returns-clause-when_false c h e = some_left (λ r. r.now) c.args.self.now.rest c.is_none.result c.is_none.ensures h e
