use Rattle.class_text.proofs.Cuts.{lines_from}
use Rattle.class_text.proofs.fields.cut_line.Goals as goal

pub returns-clause-lines : goal.returns-clause-lines
returns-clause-lines c = lines_from (λ r. r.0.now) (λ r. r.1.now) c.args.bytes.now c.cut.result c.cut.ensures.parts
