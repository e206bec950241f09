use Rattle.std.proofs.Common.{[], ◌∷◌, length}
use Rattle.std.specs.Prelude.{flat_map}
use Rattle.std.proofs.lemmas.Result.{err_from_is_err_and}
use Rattle.io_edge.proofs.Texts.{writes_then, writes_exit}
use Rattle.ntfe_model.specs.RunText.{number_line, vector_line}
use Rattle.class_text.proofs.head.write_list.Goals as goal

pub returns-in_err-write_count : goal.returns-in_err-write_count
returns-in_err-write_count g c =
    let p = err_from_is_err_and c.from_residual.result c.from_residual.ensures.1 in
    let vs = c.args.vectors.now in
    rw (p.1, p.2) (writes_exit _ _ _ _ (number_line c.args.word.now (length vs ∷ [])) (flat_map vector_line vs) _ c.in_err-write_count.ensures)

pub returns : goal.returns
returns g c =
    let vs = c.args.vectors.now in
    writes_then _ _ _ _ _ _ (number_line c.args.word.now (length vs ∷ [])) (flat_map vector_line vs) _ c.in_ok-write_count.ensures c.write_items.ensures
