use Rattle.std.proofs.Common.{arith}
use Rattle.class_text.specs.Forms.{layout_of}
use Rattle.class_text.proofs.OneAnswer.{only_kept, exact_fault}
use Rattle.class_text.proofs.earlier.read_earlier.Goals as goal

pub returns-clause-only : goal.returns-clause-only
returns-clause-only c = only_kept (layout_of c.args.form.now) (omega arith) c.args.bytes.now c.read_text.result c.read_text.ensures.ok c.read_text.ensures.fault

pub returns-clause-exact : goal.returns-clause-exact
returns-clause-exact c = exact_fault (layout_of c.args.form.now) (omega arith) c.args.bytes.now c.read_text.result c.read_text.ensures.ok c.read_text.ensures.fault
