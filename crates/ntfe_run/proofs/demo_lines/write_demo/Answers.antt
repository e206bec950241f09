use Rattle.std.proofs.Common.{◌++◌}
use Rattle.std.proofs.lemmas.Result.{err_from_is_err_and}
use Rattle.io_edge.proofs.Texts.{writes_then, writes_exit}
use Rattle.ntfe_run.specs.Demo.{size_lines, classes_line, last_line}
use Rattle.ntfe_run.proofs.demo_lines.write_demo.Goals as goal

pub returns-in_err-write_sizes : goal.returns-in_err-write_sizes
returns-in_err-write_sizes g c =
    let p = err_from_is_err_and c.from_residual.result c.from_residual.ensures.1 in
    rw (p.1, p.2) (writes_exit _ _ _ _ (size_lines c.args.number c.args.geometry.now) (classes_line c.args.count c.args.how.now ++ last_line c.args.last.now) _ c.in_err-write_sizes.ensures)

pub returns-in_err-write_classes_line : goal.returns-in_err-write_classes_line
returns-in_err-write_classes_line g c =
    let p = err_from_is_err_and c.from_residual-in_err-write_classes_line.result c.from_residual-in_err-write_classes_line.ensures.1 in
    let classes = classes_line c.args.count c.args.how.now in
    let last = last_line c.args.last.now in
    rw (p.1, p.2)
    (writes_then _ _ _ _ _ _ (size_lines c.args.number c.args.geometry.now) (classes ++ last) _ c.in_ok-write_sizes.ensures
    (writes_exit _ _ _ _ classes last _ c.in_err-write_classes_line.ensures))

pub returns : goal.returns
returns g c =
    let classes = classes_line c.args.count c.args.how.now in
    let last = last_line c.args.last.now in
    writes_then _ _ _ _ _ _ (size_lines c.args.number c.args.geometry.now) (classes ++ last) _ c.in_ok-write_sizes.ensures
    (writes_then _ _ _ _ _ _ classes last _ c.in_ok-write_classes_line.ensures c.write_last_line.ensures)
