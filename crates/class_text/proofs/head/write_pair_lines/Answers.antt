use Rattle.std.specs.Prelude.{codes}
use Rattle.std.proofs.lemmas.Result.{err_from_is_err_and}
use Rattle.io_edge.proofs.Texts.{writes_then, writes_exit}
use Rattle.ntfe_model.specs.RunText.{list_lines}
use Rattle.class_text.proofs.head.write_pair_lines.Goals as goal

pub returns-in_err-write_list : goal.returns-in_err-write_list
returns-in_err-write_list g c =
    let p = err_from_is_err_and c.from_residual.result c.from_residual.ensures.1 in
    let pair = c.args.pair.now in
    rw (p.1, p.2, ← c.vertices.ensures.value) (writes_exit _ _ _ _ (list_lines (codes "vertices") c.vertices.result.now) (list_lines (codes "dual") pair.dual) _ c.in_err-write_list.ensures)

pub returns : goal.returns
returns g c =
    rw (← c.vertices.ensures.value, ← c.dual.ensures.value)
    (writes_then _ _ _ _ _ _ (list_lines (codes "vertices") c.vertices.result.now) (list_lines (codes "dual") c.dual.result.now) _ c.in_ok-write_list.ensures c.write_list-2.ensures)
