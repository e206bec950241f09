use Rattle.std.proofs.Common.{◌∙◌, sym, ap, subst, ℕ, Some}
use Rattle.std.specs.Option.{option_copied}
use Rattle.std.proofs.lemmas.Option.{slice_get_within}
use Rattle.node_probe.specs.FoldCaches.{IsShelved}
use Rattle.node_probe.proofs.FoldCacheLemmas.{shelved_read, number_read, adds_item}
use Rattle.node_probe.proofs.fold_cache.FaceFolds.add_folds.Goals as goal

pub returns-clause-rows : goal.returns-clause-rows
returns-clause-rows c =
    let kept = c.keep_folds.new.kept.items in
    let e = c.unwrap-kept.result.now in
    let there = c.in_ok-place.ensures.folds in
    let o = sym c.as_ref.ensures.value ∙ ap option_copied c.unwrap-kept.ensures in
    let l = slice_get_within kept c.in_ok-place.place (Some there.0) there.1 in
    let P : ℕ → Type 0 = λ n. IsShelved c.self.inside.chart n e.folds in
    adds_item c.self.inside.chart c.args.self.now c.args.number c.args.face c.args.rows.now c.add_rows.new.rows e.folds c.as_slice.result.now c.self.view_is c.as_slice.ensures
    (subst P (number_read kept c.in_ok-place.place c.args.number c.index.result.now e there l c.index.ensures o)
    (shelved_read c.self.inside.chart kept c.in_ok-place.place c.index.result.now e c.keep_folds.ensures.cached l c.index.ensures o))
    c.in_ok-add_rows.ensures.folds c.in_ok-add_rows.ensures.faces
