use Rattle.pair_text.proofs.Canonical.{pair_text}
use Rattle.pair_text.proofs.writing.write_pair.Goals as goal

pub returns-in_err-append_list-clause-text : goal.returns-in_err-append_list-clause-text
returns-in_err-append_list-clause-text c = pair_text c.args.pair.now c.vertices.ensures.bounded

pub returns-in_err-append_list-2-clause-text : goal.returns-in_err-append_list-2-clause-text
returns-in_err-append_list-2-clause-text c = pair_text c.args.pair.now c.vertices.ensures.bounded

pub returns-clause-text : goal.returns-clause-text
returns-clause-text c = pair_text c.args.pair.now c.vertices.ensures.bounded
