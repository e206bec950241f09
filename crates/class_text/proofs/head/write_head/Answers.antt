use Rattle.std.proofs.Common.{◌++◌}
use Rattle.std.specs.Prelude.{codes}
use Rattle.std.proofs.lemmas.Result.{err_from_is_err_and}
use Rattle.io_edge.proofs.Texts.{writes_then, writes_exit}
use Rattle.ntfe_model.specs.RunText.{pair_lines, push_line, stars_line}
use Rattle.class_text.proofs.head.write_head.Goals as goal

pub returns-in_err-write_text : goal.returns-in_err-write_text
returns-in_err-write_text g c =
    let p = err_from_is_err_and c.from_residual.result c.from_residual.ensures.1 in
    let form = c.args.form.now in
    rw (p.1, p.2) (writes_exit _ _ _ _ (codes "ntfe 1\n") (pair_lines form.pair ++ (push_line form.push ++ stars_line form.stars)) _ c.in_err-write_text.ensures.text)

pub returns-in_err-write_pair_lines : goal.returns-in_err-write_pair_lines
returns-in_err-write_pair_lines g c =
    let p = err_from_is_err_and c.from_residual-in_err-write_pair_lines.result c.from_residual-in_err-write_pair_lines.ensures.1 in
    let form = c.args.form.now in
    rw (p.1, p.2)
    (writes_then _ _ _ _ _ _ (codes "ntfe 1\n") (pair_lines form.pair ++ (push_line form.push ++ stars_line form.stars)) _ c.in_ok-write_text.ensures.text
    (writes_exit _ _ _ _ (pair_lines form.pair) (push_line form.push ++ stars_line form.stars) _ c.in_err-write_pair_lines.ensures))

pub returns-in_err-write_push : goal.returns-in_err-write_push
returns-in_err-write_push g c =
    let p = err_from_is_err_and c.from_residual-in_err-write_push.result c.from_residual-in_err-write_push.ensures.1 in
    let form = c.args.form.now in
    rw (p.1, p.2)
    (writes_then _ _ _ _ _ _ (codes "ntfe 1\n") (pair_lines form.pair ++ (push_line form.push ++ stars_line form.stars)) _ c.in_ok-write_text.ensures.text
    (writes_then _ _ _ _ _ _ (pair_lines form.pair) (push_line form.push ++ stars_line form.stars) _ c.in_ok-write_pair_lines.ensures
    (writes_exit _ _ _ _ (push_line form.push) (stars_line form.stars) _ c.in_err-write_push.ensures)))

pub returns : goal.returns
returns g c =
    let form = c.args.form.now in
    writes_then _ _ _ _ _ _ (codes "ntfe 1\n") (pair_lines form.pair ++ (push_line form.push ++ stars_line form.stars)) _ c.in_ok-write_text.ensures.text
    (writes_then _ _ _ _ _ _ (pair_lines form.pair) (push_line form.push ++ stars_line form.stars) _ c.in_ok-write_pair_lines.ensures
    (writes_then _ _ _ _ _ _ (push_line form.push) (stars_line form.stars) _ c.in_ok-write_push.ensures c.write_stars_mark.ensures))
