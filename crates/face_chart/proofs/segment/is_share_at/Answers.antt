use Rattle.std.proofs.Common.{ℕ, ℤ, ◌≡◌, ◌∙◌, Bool, true, false, sym, ap, refl, w64, to_z, of_z, List, [], ◌∷◌, get_or, pos, to_z-of_z}
use Rattle.ntfe_nums.specs.Sizes.{AreWithin}
use Rattle.ntfe_nums.proofs.Ring.Expression.{var, times}
use Rattle.ntfe_nums.proofs.Machine.{AreBounded, AreWithin-four, exact, fits}
use Rattle.ntfe_nums.proofs.Comparisons.{same_from_test, test_from_same}
use Rattle.face_chart.specs.declared.segment.Share.{Share}
use Rattle.face_chart.specs.Steps.{IsSmallShare}
use Rattle.face_chart.proofs.segment.is_share_at.Goals as goal

not_both : {X : Type 0} (b : Bool) → b ≡ true → b ≡ false → X
not_both b e f = let g : true ≡ false = sym e ∙ f in cc

abbrev vars : List ℤ → List ℤ → Share → ℕ → List ℤ
vars e d m i = m.n ∷ get_or e i (pos 0) ∷ m.s ∷ get_or d i (pos 0) ∷ []

abbrev bounds : List ℕ
bounds = 16777216 ∷ 2046 ∷ 16777216 ∷ 2046 ∷ []

bounded : (e d : List ℤ) (m : Share) (i : ℕ) → AreWithin 2046 e → AreWithin 2046 d → IsSmallShare m → AreBounded (vars e d m i) bounds
bounded e d m i h k s = (s.whole, (AreWithin-four 2046 e h i, (s.part, (AreWithin-four 2046 d k i, tt))))

pub overflow_mul-result : goal.overflow_mul-result
overflow_mul-result c =
    fits w64 (vars c.args.e.now c.args.d.now c.args.share.now c.args.i) bounds (bounded c.args.e.now c.args.d.now c.args.share.now c.args.i c.requires.first c.requires.second c.requires.share) (times (var 0) (var 1)) refl

pub overflow_mul-result-2 : goal.overflow_mul-result-2
overflow_mul-result-2 c =
    fits w64 (vars c.args.e.now c.args.d.now c.args.share.now c.args.i) bounds (bounded c.args.e.now c.args.d.now c.args.share.now c.args.i c.requires.first c.requires.second c.requires.share) (times (var 2) (var 3)) refl

pub returns : goal.returns
returns c =
    let vs = vars c.args.e.now c.args.d.now c.args.share.now c.args.i in
    let h = bounded c.args.e.now c.args.d.now c.args.share.now c.args.i c.requires.first c.requires.second c.requires.share in
    let p = exact w64 vs bounds h (times (var 0) (var 1)) refl in
    let q = exact w64 vs bounds h (times (var 2) (var 3)) refl in
    let f = fits w64 vs bounds h (times (var 0) (var 1)) refl in
    let g = fits w64 vs bounds h (times (var 2) (var 3)) refl in
    record {
      when_true = λ t. sym p ∙ ap (to_z w64) (same_from_test _ _ t) ∙ q;
      when_false = λ t e. not_both _ (test_from_same _ _ (ap (of_z w64) (sym (to_z-of_z f) ∙ p ∙ e ∙ sym q ∙ to_z-of_z g))) t;
    }
