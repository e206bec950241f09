use Rattle.ntfe_model.specs.PairText.{lines_of}
use Rattle.pair_text.proofs.Unique.{pair_read}
use Rattle.pair_text.proofs.Exact.{fault_read}
use Rattle.pair_text.proofs.reading.read_pair.Goals as goal

pub returns-clause-only : goal.returns-clause-only
returns-clause-only c = pair_read (lines_of c.args.bytes.now) c.read_lines.result c.read_lines.ensures.ok c.read_lines.ensures.fault

pub returns-clause-exact : goal.returns-clause-exact
returns-clause-exact c = fault_read (lines_of c.args.bytes.now) c.read_lines.result c.read_lines.ensures.ok c.read_lines.ensures.fault
