use Rattle.std.proofs.Common.{suc, take, drop, get_or, arith}
use Rattle.std.specs.Prelude.{flat_map}
use Rattle.std.proofs.lemmas.List.{get_or_default}
use Rattle.std.proofs.lemmas.Result.{err_from_is_err_and}
use Rattle.io_edge.proofs.Texts.{writes_stop}
use Rattle.class_text.proofs.FlatMapLemmas.{flat_map-at}
use Rattle.ntfe_run.specs.Fragments.{fragment_text}
use Rattle.ntfe_run.proofs.fragment.write_fragments.Goals as goal

pub returns-in_err-write_fragment-clause-text : goal.returns-in_err-write_fragment-clause-text
returns-in_err-write_fragment-clause-text g c =
    let p = err_from_is_err_and c.from_residual.result c.from_residual.ensures.1 in
    let fragments = c.args.fragments.now in
    let i = c.loop-fragment.fragment-index in
    rw (p.1, p.2)
    (writes_stop _ _ _ _ _ _ (flat_map fragment_text (take i fragments)) (fragment_text (get_or fragments i _)) (flat_map fragment_text (drop (suc i) fragments)) _ _
    (flat_map-at fragment_text fragments i (get_or fragments i _) (omega arith) (get_or_default fragments i _ _ (omega arith))) c.loop-fragment.invariant c.in_err-write_fragment.ensures.text)
