use Rattle.std.proofs.Common.{◌≡◌, ◌<◌, ◌∙◌, refl, sym, ap, subst, arith, ℕ, List, length, get_or}
use Rattle.ntfe_model.specs.Books.{KeepsItem}
use Rattle.ntfe_model.specs.Charts.{Patch, patch_at}
use Rattle.node_probe.proofs.KeyLemmas.{key_low}
use Rattle.node_probe.proofs.FoldCacheLemmas.{shelved_step, place_same, patch_is}
use Rattle.node_probe.proofs.fold_cache.cached_rows.Goals as goal

pub add_kept-requires-clause-number : goal.add_kept-requires-clause-number
add_kept-requires-clause-number g c =
    let e = c.as_slice-numbers.ensures ∙ c.key.view_is in
    let l = c.loop-face-test.true in
    let m = ap length e in
    let k = key_low (g.B.Book.shape c.args.book.now) c.args.key.now c.requires.key c.loop-face.face (omega (arith, l, m)) in
    let n = ap (λ (ks : List ℕ). get_or ks c.loop-face.face 0) e in
    omega (arith, k, n)

pub add_kept-requires-clause-kept : goal.add_kept-requires-clause-kept
add_kept-requires-clause-kept g c =
    let e = c.as_slice-numbers.ensures ∙ c.key.view_is in
    let l = c.loop-face-test.true in
    let m = ap length e in
    let P : List ℕ → Type 0 = λ ks. KeepsItem (g.B.Book.keeps c.args.book.now) c.loop-face.face (get_or ks c.loop-face.face 0) in
    subst P (sym e) (c.requires.kept c.loop-face.face (omega (arith, l, m)))

pub loop-face-preserved : goal.loop-face-preserved
loop-face-preserved g c =
    let h = g.B.Book.shape c.args.book.now in
    let f = c.loop-face.face in
    let e = c.as_slice-numbers.ensures ∙ c.key.view_is in
    let caches = c.loop-face.caches.items in
    let cache = c.index_mut-cache.result.now in
    let l : f < length h.faces = (let m = ap length e in let t = c.loop-face-test.true in let k = c.requires.key.at_most in omega (arith, m, t, k)) in
    let patch : cache ≡ patch_at h f = c.index_mut-cache.ensures.value ∙ ap (λ (xs : List Patch). get_or xs f cache) (c.loop-face.invariant.0 ∙ c.requires.patches) ∙ patch_is h f cache l in (
      place_same caches f c.add_kept.new.cache cache c.in_ok-add_kept.ensures.patch c.index_mut-cache.ensures.value ∙ c.loop-face.invariant.0,
      shelved_step h c.args.key.now c.as_slice-numbers.result.now f (get_or c.as_slice-numbers.result.now f 0) cache c.loop-face.rows c.add_kept.new.rows e c.loop-face-test.true refl patch c.in_ok-add_kept.ensures.rows c.loop-face.invariant.1,
    )
