-- Rows in words of 64 bits.
use Rattle.std.proofs.Common.{◌≡◌, ℕ, zero, suc, ◌+◌, ◌*◌, ◌^◌, ◌<◌, ◌≤◌, Bool, true, false, refl, sym, ap, ◌∙◌, subst, arith, ℤ, pos, negsuc, ◌+ℤ◌, ◌*ℤ◌, neg_ℤ, ◌<ℤ◌, List, [], ◌∷◌, length, set, unsigned_abs, to_z, of_z, w64, FitsSigned}
use Rattle.std.specs.Int.{IsGcd}
use Rattle.std.specs.Bool.{OnTrue}
use Rattle.std.specs.Int.Signed.{quot_z}
use Rattle.std.proofs.lemmas.Int.{ints, unsigned_abs-mul, fits_signed_from_abs}
use Rattle.std.proofs.lemmas.Nat.Gcd.{le_of_dvd}
use Rattle.std.proofs.Math.Nat.{pos_of_dvd_of_pos}
use Rattle.ntfe_nums.proofs.Machine.{back}
use Rattle.ntfe_nums.proofs.Ring.{ring, product_zero}
use Rattle.ntfe_nums.proofs.Ring.Expression.{var, num, plus, times, neg}
use Rattle.strict_solver.specs.declared.short.Shares.{Shares}
use Rattle.strict_solver.specs.Rows.{number, IsLowered, IsCombination}
use Rattle.strict_solver.specs.ShortRows.{AreShares}
use Rattle.strict_solver.proofs.Rows.{exact_quotient, unwrap64}
use Rattle.strict_solver.proofs.Combine.{first_product, combined_by}

-- what fits into a word comes back from it
pub word64 : (z : ℤ) → unsigned_abs z < 2 ^ 63 → to_z w64 (of_z w64 z) ≡ z
word64 z h = back w64 z (unsigned_abs z) (omega arith) h

pub one_word : (z : ℤ) → unsigned_abs z < 2 ^ 62 → of_z w64 z ≡ 1 → pos 1 ≡ z
one_word z h e = ap (to_z w64) (sym e) ∙ word64 z (omega arith)

-- ---- the shares
pub gcd_swapped : (a b g : ℕ) → IsGcd a b g → IsGcd b a g
gcd_swapped a b g h = (h.1, h.0, (λ d i j. h.2 d j i))

-- a factor is no larger than the product
pub factor_small : (g : ℕ) (q z : ℤ) (m : ℕ) → 0 < g → pos g *ℤ q ≡ z → unsigned_abs z < m → unsigned_abs q < m
factor_small zero q z m p e h = absurd (omega arith)
factor_small (suc g) q z m p e h =
    let s : suc g * unsigned_abs q ≡ unsigned_abs z = sym (unsigned_abs-mul (pos (suc g)) q) ∙ ap unsigned_abs e in
    small g (unsigned_abs q) (unsigned_abs z) s h
  where
    small : (g q z : ℕ) → suc g * q ≡ z → z < m → q < m
    small g q z e h = omega arith

-- the quotient is no larger
pub quotient_small : (d q z : ℤ) (m : ℕ) → pos 0 <ℤ d → d *ℤ q ≡ z → unsigned_abs z < m → unsigned_abs q < m
quotient_small (pos d) q z m p e h = factor_small d q z m (omega (arith, ints)) e h
quotient_small (negsuc d) q z m p e h = absurd (omega (arith, ints))

factor_positive : (g : ℕ) (q z : ℤ) → pos g *ℤ q ≡ z → pos 0 <ℤ z → pos 0 <ℤ q
factor_positive g (pos zero) z e h = absurd (let i : z ≡ pos 0 = sym e ∙ product_zero (pos g) in omega (arith, ints))
factor_positive g (pos (suc q)) z e h = omega (arith, ints)
factor_positive zero (negsuc q) z e h = absurd (let i : z ≡ pos 0 = sym e ∙ ring (negsuc q ∷ []) (times (num (pos 0)) (var 0)) (num (pos 0)) refl in omega (arith, ints))
factor_positive (suc g) (negsuc q) z e h =
    let i : z ≡ neg_ℤ (pos (suc g * suc q)) = sym e ∙ ring (pos (suc g) ∷ pos (suc q) ∷ []) (times (var 0) (neg (var 1))) (neg (times (var 0) (var 1))) refl in
    negative (suc g * suc q) (omega arith) i
  where
    negative : (n : ℕ) → 0 < n → z ≡ neg_ℤ (pos n) → pos 0 <ℤ negsuc q
    negative n p i = absurd (omega (arith, ints))

pub common_some : (d f : ℤ) (g : ℕ) → pos 0 <ℤ d → IsGcd (unsigned_abs f) (unsigned_abs d) g → 0 < g
common_some d f g p h = pos_of_dvd_of_pos h.1 (omega (arith, ints))

pub common_small : (d f : ℤ) (g : ℕ) → pos 0 <ℤ d → IsGcd (unsigned_abs f) (unsigned_abs d) g → g ≤ unsigned_abs d
common_small d f g p h = le_of_dvd (omega (arith, ints)) h.1

pub shares_of : (d f : ℤ) (g : ℕ) → pos 0 <ℤ d → unsigned_abs d < 2 ^ 62 → unsigned_abs f < 2 ^ 62 → IsGcd (unsigned_abs f) (unsigned_abs d) g
    → AreShares d f (record { row = quot_z d (pos g); pivot = quot_z f (pos g) })
shares_of d f g p h i c =
    let some = common_some d f g p c in
    let a = exact_quotient (pos g) d (omega (arith, ints)) c.1 in
    let b = exact_quotient (pos g) f (omega (arith, ints)) c.0 in
    record {
      common = g;
      some = some;
      row = a;
      pivot = b;
      positive = factor_positive g (quot_z d (pos g)) d a p;
      row_small = factor_small g (quot_z d (pos g)) d (2 ^ 62) some a h;
      pivot_small = factor_small g (quot_z f (pos g)) f (2 ^ 62) some b i;
    }

-- ---- sums of two products
module _ (a q b m : ℤ) (h : unsigned_abs a * unsigned_abs q + unsigned_abs b * unsigned_abs m < 2 ^ 63) where
  size_first : unsigned_abs (q *ℤ a) ≡ unsigned_abs a * unsigned_abs q
  size_first = unsigned_abs-mul q a ∙ (let e : unsigned_abs q * unsigned_abs a ≡ unsigned_abs a * unsigned_abs q = omega arith in e)

  pub first_small : unsigned_abs (q *ℤ a) < 2 ^ 63
  first_small = let e = size_first in omega arith

  pub second_small : unsigned_abs (b *ℤ m) < 2 ^ 63
  second_small = let e = unsigned_abs-mul b m in omega arith

  pub sum_small : unsigned_abs (q *ℤ a +ℤ b *ℤ m) < 2 ^ 63
  sum_small = let e = size_first in let f = unsigned_abs-mul b m in below (q *ℤ a) (b *ℤ m) (omega arith)
    where
      below : (x y : ℤ) → unsigned_abs x + unsigned_abs y < 2 ^ 63 → unsigned_abs (x +ℤ y) < 2 ^ 63
      below x y l = omega (arith, ints)

-- the same as the code computes it, each number in a word
module _ (a q b m : ℤ) (h : unsigned_abs a * unsigned_abs q + unsigned_abs b * unsigned_abs m < 2 ^ 63)
    (ha : unsigned_abs a < 2 ^ 62) (hq : unsigned_abs q < 2 ^ 62) (hb : unsigned_abs b < 2 ^ 62) (hm : unsigned_abs m < 2 ^ 62) where
  first_word : to_z w64 (of_z w64 q) *ℤ to_z w64 (of_z w64 a) ≡ q *ℤ a
  first_word i = unwrap64 q hq i *ℤ unwrap64 a ha i

  second_word : to_z w64 (of_z w64 b) *ℤ to_z w64 (of_z w64 m) ≡ b *ℤ m
  second_word i = unwrap64 b hb i *ℤ unwrap64 m hm i

  pub sum_word : to_z w64 (of_z w64 (to_z w64 (of_z w64 q) *ℤ to_z w64 (of_z w64 a))) +ℤ to_z w64 (of_z w64 (to_z w64 (of_z w64 b) *ℤ to_z w64 (of_z w64 m))) ≡ q *ℤ a +ℤ b *ℤ m
  sum_word =
      (λ i. to_z w64 (of_z w64 (first_word i)) +ℤ to_z w64 (of_z w64 (second_word i)))
      ∙ (λ i. word64 (q *ℤ a) (first_small a q b m h) i +ℤ word64 (b *ℤ m) (second_small a q b m h) i)

  pub product_fits : FitsSigned w64 (to_z w64 (of_z w64 q) *ℤ to_z w64 (of_z w64 a))
  product_fits = subst (FitsSigned w64) (sym first_word) (fits_signed_from_abs w64 (q *ℤ a) (first_small a q b m h))

  pub sum_fits : FitsSigned w64 (to_z w64 (of_z w64 (to_z w64 (of_z w64 q) *ℤ to_z w64 (of_z w64 a))) +ℤ to_z w64 (of_z w64 (to_z w64 (of_z w64 b) *ℤ to_z w64 (of_z w64 m))))
  sum_fits = subst (FitsSigned w64) (sym sum_word) (fits_signed_from_abs w64 (q *ℤ a +ℤ b *ℤ m) (sum_small a q b m h))

pub on_true : (b : Bool) (A : Type 0) → (b ≡ true → A) → OnTrue b A
on_true true A f = f refl
on_true false A f = tt

-- ---- the row with the pivot row put in
-- the sums are the mixed numbers times the common number
mixed_sums : (row : List ℤ) (p : ℕ) (piv : List ℤ) (den : ℤ) (shares : Shares) (raw : List ℤ) (s : AreShares den (number row p) shares)
    → ((j : ℕ) → number raw j ≡ number (set row p (pos 0)) j *ℤ shares.row +ℤ shares.pivot *ℤ number piv j) → (j : ℕ)
    → number (set row p (pos 0)) j *ℤ den +ℤ number row p *ℤ number piv j ≡ pos s.common *ℤ number raw j
mixed_sums row p piv den shares raw s each j =
    (λ i. number (set row p (pos 0)) j *ℤ sym s.row i +ℤ sym s.pivot i *ℤ number piv j)
    ∙ ring (number (set row p (pos 0)) j ∷ pos s.common ∷ shares.row ∷ shares.pivot ∷ number piv j ∷ [])
    (plus (times (var 0) (times (var 1) (var 2))) (times (times (var 1) (var 3)) (var 4)))
    (times (var 1) (plus (times (var 0) (var 2)) (times (var 3) (var 4)))) refl
    ∙ ap (λ z. pos s.common *ℤ z) (sym (each j))

pub mixed_form : (row : List ℤ) (p : ℕ) (piv : List ℤ) (den : ℤ) (shares : Shares) (raw new : List ℤ) → AreShares den (number row p) shares
    → ((j : ℕ) → number raw j ≡ number (set row p (pos 0)) j *ℤ shares.row +ℤ shares.pivot *ℤ number piv j) → length raw ≡ length row → IsLowered raw new → IsCombination row p piv den new
mixed_form row p piv den shares raw new s each count l = combined_by row p piv den raw new s.common s.some (mixed_sums row p piv den shares raw s each) count l

pub mixed_some : (row : List ℤ) (p : ℕ) (piv : List ℤ) (shares : Shares) (raw : List ℤ) → 2 ≤ p → pos 0 <ℤ number row 0 → pos 0 <ℤ shares.row → number piv 0 ≡ pos 0
    → ((j : ℕ) → number raw j ≡ number (set row p (pos 0)) j *ℤ shares.row +ℤ shares.pivot *ℤ number piv j) → 0 < unsigned_abs (number raw 0)
mixed_some row p piv shares raw l h i z each = first_product row p piv shares.row shares.pivot raw l h i z (each 0)
