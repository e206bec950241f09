use Rattle.std.proofs.Common.{[], ◌++◌}
use Rattle.std.specs.Prelude.{codes, unwrap_or}
use Rattle.std.proofs.lemmas.Result.{err_from_is_err_and}
use Rattle.io_edge.proofs.Texts.{writes_then, writes_exit}
use Rattle.ntfe_run.specs.Messages.{spaced_numbers}
use Rattle.ntfe_run.proofs.demo_lines.write_last_line.Goals as goal

pub returns-in_err-write_text : goal.returns-in_err-write_text
returns-in_err-write_text g c =
    let p = err_from_is_err_and c.from_residual.result c.from_residual.ensures.1 in
    rw (p.1, p.2) (writes_exit _ _ _ _ (codes "last") (spaced_numbers (unwrap_or c.args.last.now []) ++ codes "\n") _ c.in_err-write_text.ensures.text)

pub returns-in_err-write_numbers : goal.returns-in_err-write_numbers
returns-in_err-write_numbers g c =
    let p = err_from_is_err_and c.from_residual-in_err-write_numbers.result c.from_residual-in_err-write_numbers.ensures.1 in
    let numbers = spaced_numbers c.items.result.now in
    rw (p.1, p.2, ← c.items.ensures)
    (writes_then _ _ _ _ _ _ (codes "last") (numbers ++ codes "\n") _ c.in_ok-write_text.ensures.text
    (writes_exit _ _ _ _ numbers (codes "\n") _ c.in_err-write_numbers.ensures.text))

pub returns : goal.returns
returns g c =
    let numbers = spaced_numbers c.items.result.now in
    rw (← c.items.ensures)
    (writes_then _ _ _ _ _ _ (codes "last") (numbers ++ codes "\n") _ c.in_ok-write_text.ensures.text
    (writes_then _ _ _ _ _ _ numbers (codes "\n") _ c.in_ok-write_numbers.ensures.text c.write_text-2.ensures.text))
