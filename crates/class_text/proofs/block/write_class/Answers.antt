use Rattle.std.proofs.Common.{◌++◌}
use Rattle.std.specs.Prelude.{codes}
use Rattle.std.specs.Option.{option_map}
use Rattle.std.proofs.lemmas.Result.{err_from_is_err_and}
use Rattle.io_edge.proofs.Texts.{writes_then, writes_exit}
use Rattle.ntfe_model.specs.RunText.{number_line, signed_line, star_lines}
use Rattle.class_text.proofs.block.write_class.Goals as goal

pub returns-in_err-write_numbers : goal.returns-in_err-write_numbers
returns-in_err-write_numbers g c =
    let p = err_from_is_err_and c.from_residual.result c.from_residual.ensures.1 in
    let star = star_lines (option_map (λ s. s.now.simplices) c.args.star) in
    rw (p.1, p.2, ← c.choice.view_is, ← c.as_slice.ensures)
    (writes_exit _ _ _ _ (number_line (codes "class") c.as_slice.result.now) (signed_line (codes "heights") c.args.heights.now ++ star) _ c.in_err-write_numbers.ensures)

pub returns-in_err-write_signed : goal.returns-in_err-write_signed
returns-in_err-write_signed g c =
    let p = err_from_is_err_and c.from_residual-in_err-write_signed.result c.from_residual-in_err-write_signed.ensures.1 in
    let star = star_lines (option_map (λ s. s.now.simplices) c.args.star) in
    rw (p.1, p.2, ← c.choice.view_is, ← c.as_slice.ensures, ← c.heights.view_is, ← c.as_slice-2.ensures)
    (writes_then _ _ _ _ _ _ (number_line (codes "class") c.as_slice.result.now) (signed_line (codes "heights") c.as_slice-2.result.now ++ star) _ c.in_ok-write_numbers.ensures
    (writes_exit _ _ _ _ (signed_line (codes "heights") c.as_slice-2.result.now) star _ c.in_err-write_signed.ensures))

pub returns : goal.returns
returns g c =
    let star = star_lines (option_map (λ s. s.now.simplices) c.args.star) in
    rw (← c.choice.view_is, ← c.as_slice.ensures, ← c.heights.view_is, ← c.as_slice-2.ensures)
    (writes_then _ _ _ _ _ _ (number_line (codes "class") c.as_slice.result.now) (signed_line (codes "heights") c.as_slice-2.result.now ++ star) _ c.in_ok-write_numbers.ensures
    (writes_then _ _ _ _ _ _ (signed_line (codes "heights") c.as_slice-2.result.now) star _ c.in_ok-write_signed.ensures c.write_star.ensures))
