use Rattle.std.proofs.Common.{ℕ, suc, take, drop, get_or, decimal}
use Rattle.std.proofs.lemmas.List.{get_or_default}
use Rattle.std.proofs.lemmas.Result.{err_from_is_err_and}
use Rattle.io_edge.proofs.Texts.{writes_stop}
use Rattle.ntfe_model.specs.RunText.{spaced}
use Rattle.class_text.proofs.FlatMapLemmas.{flat_map-at}
use Rattle.ntfe_run.specs.Messages.{spaced_numbers}
use Rattle.ntfe_run.proofs.pieces.write_numbers.Goals as goal

pub returns-in_err-write_spaced-clause-text : goal.returns-in_err-write_spaced-clause-text
returns-in_err-write_spaced-clause-text g c =
    let p = err_from_is_err_and c.from_residual.result c.from_residual.ensures.1 in
    let ns = c.args.numbers.now in
    let i = c.loop-number.number-index in
    let n = get_or ns i 0 in
    rw (p.1, p.2)
    (writes_stop _ _ _ _ _ _ (spaced_numbers (take i ns)) (spaced (decimal n)) (spaced_numbers (drop (suc i) ns)) _ _
    (flat_map-at (λ (m : ℕ). spaced (decimal m)) ns i n c.loop-number-test.true (get_or_default ns i 0 n c.loop-number-test.true)) c.loop-number.invariant c.in_err-write_spaced.ensures.text)
