use Rattle.std.proofs.Common.{[], ◌∷◌, length}
use Rattle.std.specs.Prelude.{codes, flat_map}
use Rattle.std.proofs.lemmas.Result.{err_from_is_err_and}
use Rattle.io_edge.proofs.Texts.{writes_then, writes_exit}
use Rattle.ntfe_model.specs.RunText.{number_line}
use Rattle.class_text.proofs.block.write_star.Goals as goal

pub returns-in_err-write_count : goal.returns-in_err-write_count
returns-in_err-write_count g c =
    let p = err_from_is_err_and c.from_residual.result c.from_residual.ensures.1 in
    let simplices = c.as_slice-simplices.result.now in
    rw (p.1, p.2, c.in-Some.is, ← c.as_slice-simplices.ensures)
    (writes_exit _ _ _ _ (number_line (codes "star") (length simplices ∷ [])) (flat_map (number_line (codes "simplex")) simplices) _ c.in_err-write_count.ensures)

pub returns : goal.returns
returns g c =
    let simplices = c.as_slice-simplices.result.now in
    rw (c.in-Some.is, ← c.as_slice-simplices.ensures)
    (writes_then _ _ _ _ _ _ (number_line (codes "star") (length simplices ∷ [])) (flat_map (number_line (codes "simplex")) simplices) _ c.in_ok-write_count.ensures c.write_items.ensures)
