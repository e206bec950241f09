use Rattle.std.proofs.Common.{ℕ, ℤ, ◌≡◌, ◌∙◌, true, false, sym, ap, refl, w64, to_z, of_z, List, [], ◌∷◌, get_or, pos, to_z-of_z}
use Rattle.ntfe_nums.specs.Sizes.{AreWithin}
use Rattle.ntfe_nums.proofs.Ring.{Expression}
use Rattle.ntfe_nums.proofs.Ring.Expression.{var, minus, times}
use Rattle.ntfe_nums.proofs.Machine.{AreBounded, AreWithin-four, exact, fits}
use Rattle.ntfe_nums.proofs.Comparisons.{same_from_test}
use Rattle.ntfe_nums.proofs.Comparisons.{test_from_same}
use Rattle.fine_triples.specs.declared.meeting.Shares.{Shares}
use Rattle.fine_triples.specs.ShareNumbers.{AreSmallShares}
use Rattle.fine_triples.proofs.meeting.is_met_at.Goals as goal

abbrev vars : Shares → List ℤ → List ℤ → List ℤ → ℕ → List ℤ
vars m d e r i = m.s ∷ get_or d i (pos 0) ∷ m.t ∷ get_or e i (pos 0) ∷ m.n ∷ get_or r i (pos 0) ∷ []

abbrev bounds : List ℕ
bounds = 562949953421312 ∷ 2046 ∷ 562949953421312 ∷ 2046 ∷ 562949953421312 ∷ 2046 ∷ []

bounded : (m : Shares) (d e r : List ℤ) (i : ℕ) → AreSmallShares m → AreWithin 2046 d → AreWithin 2046 e → AreWithin 2046 r → AreBounded (vars m d e r i) bounds
bounded m d e r i s h k l = (s.first, (AreWithin-four 2046 d h i, (s.second, (AreWithin-four 2046 e k i, (s.whole, (AreWithin-four 2046 r l i, tt))))))

abbrev leftE : Expression
leftE = minus (times (var 0) (var 1)) (times (var 2) (var 3))

abbrev rightE : Expression
rightE = times (var 4) (var 5)

pub overflow_mul-result : goal.overflow_mul-result
overflow_mul-result c =
    fits w64 (vars c.args.shares.now c.args.d.now c.args.e.now c.args.r.now c.args.i) bounds
    (bounded c.args.shares.now c.args.d.now c.args.e.now c.args.r.now c.args.i c.requires.shares c.requires.first c.requires.second c.requires.between) (times (var 0) (var 1)) refl

pub overflow_mul-result-2 : goal.overflow_mul-result-2
overflow_mul-result-2 c =
    fits w64 (vars c.args.shares.now c.args.d.now c.args.e.now c.args.r.now c.args.i) bounds
    (bounded c.args.shares.now c.args.d.now c.args.e.now c.args.r.now c.args.i c.requires.shares c.requires.first c.requires.second c.requires.between) (times (var 2) (var 3)) refl

pub overflow_sub-result : goal.overflow_sub-result
overflow_sub-result c =
    fits w64 (vars c.args.shares.now c.args.d.now c.args.e.now c.args.r.now c.args.i) bounds
    (bounded c.args.shares.now c.args.d.now c.args.e.now c.args.r.now c.args.i c.requires.shares c.requires.first c.requires.second c.requires.between) leftE refl

pub overflow_mul-result-3 : goal.overflow_mul-result-3
overflow_mul-result-3 c =
    fits w64 (vars c.args.shares.now c.args.d.now c.args.e.now c.args.r.now c.args.i) bounds
    (bounded c.args.shares.now c.args.d.now c.args.e.now c.args.r.now c.args.i c.requires.shares c.requires.first c.requires.second c.requires.between) rightE refl

pub returns : goal.returns
returns c =
    let vs = vars c.args.shares.now c.args.d.now c.args.e.now c.args.r.now c.args.i in
    let h = bounded c.args.shares.now c.args.d.now c.args.e.now c.args.r.now c.args.i c.requires.shares c.requires.first c.requires.second c.requires.between in
    let p = exact w64 vs bounds h leftE refl in
    let q = exact w64 vs bounds h rightE refl in
    let f = fits w64 vs bounds h leftE refl in
    let g = fits w64 vs bounds h rightE refl in
    record {
      when_true = λ t. sym p ∙ ap (to_z w64) (same_from_test _ _ t) ∙ q;
      when_false = λ t e. let b : true ≡ false = sym (test_from_same _ _ (ap (of_z w64) (sym (to_z-of_z f) ∙ p ∙ e ∙ sym q ∙ to_z-of_z g))) ∙ t in cc;
    }
