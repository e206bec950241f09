use Rattle.std.proofs.Common.{◌++◌}
use Rattle.std.specs.Prelude.{codes}
use Rattle.std.proofs.lemmas.Result.{err_from_is_err_and}
use Rattle.io_edge.proofs.Texts.{writes_then, writes_exit}
use Rattle.ntfe_run.specs.Messages.{answer_message}
use Rattle.ntfe_run.proofs.messages.write_told.Goals as goal

pub returns-in_err-write_text-clause-text : goal.returns-in_err-write_text-clause-text
returns-in_err-write_text-clause-text g c =
    let p = err_from_is_err_and c.from_residual.result c.from_residual.ensures.1 in
    rw (p.1, p.2) (writes_exit _ _ _ _ (codes "ntfe: ") (answer_message c.args.status.now ++ codes "\n") _ c.in_err-write_text.ensures.text)

pub returns-in_err-write-clause-text : goal.returns-in_err-write-clause-text
returns-in_err-write-clause-text g c =
    let p = err_from_is_err_and c.from_residual-in_err-write.result c.from_residual-in_err-write.ensures.1 in
    let answer = answer_message c.args.status.now in
    rw (p.1, p.2)
    (writes_then _ _ _ _ _ _ (codes "ntfe: ") (answer ++ codes "\n") _ c.in_ok-write_text.ensures.text
    (writes_exit _ _ _ _ answer (codes "\n") _ c.in_err-write.ensures.text))

pub returns-clause-text : goal.returns-clause-text
returns-clause-text g c =
    let answer = answer_message c.args.status.now in
    writes_then _ _ _ _ _ _ (codes "ntfe: ") (answer ++ codes "\n") _ c.in_ok-write_text.ensures.text
    (writes_then _ _ _ _ _ _ answer (codes "\n") _ c.in_ok-write.ensures.text c.write_text-2.ensures.text)
