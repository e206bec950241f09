-- A row in lowest form after the pivot row was put in.
use Rattle.std.proofs.Common.{◌≡◌, ℕ, zero, suc, ◌*◌, ◌<◌, ◌≤◌, refl, sym, ap, ◌∙◌, subst, arith, ℤ, pos, negsuc, ◌+ℤ◌, ◌*ℤ◌, ◌<ℤ◌, List, [], ◌∷◌, length, set, get_or-set_other, unsigned_abs}
use Rattle.std.specs.Int.{◌∣◌}
use Rattle.std.proofs.lemmas.Int.{ints, unsigned_abs-mul}
use Rattle.std.proofs.lemmas.Nat.Gcd.{le_of_dvd}
use Rattle.std.proofs.Math.Nat.{pos_of_dvd_of_pos, mul-dvd-mul_left, dvd_of_mul-dvd-mul_left, eq-one_of_dvd-one, one-le-mul}
use Rattle.std.proofs.lemmas.List.{set-get_or}
use Rattle.ntfe_nums.proofs.Ring.{ring, product_zero, one_product, sum_zero}
use Rattle.ntfe_nums.proofs.Ring.Expression.{var, num, plus, times}
use Rattle.strict_solver.specs.Rows.{number, IsCommonDivisor, IsCombination, IsLowered}

positive_product : (a b : ℤ) → pos 0 <ℤ a → pos 0 <ℤ b → 0 < unsigned_abs (a *ℤ b)
positive_product (pos (suc m)) (pos (suc n)) h i = let s : 0 < suc m * suc n = omega arith in s
positive_product (pos zero) b h i = absurd (omega (arith, ints))
positive_product (pos (suc m)) (pos zero) h i = absurd (omega (arith, ints))
positive_product (pos (suc m)) (negsuc n) h i = absurd (omega (arith, ints))
positive_product (negsuc m) b h i = absurd (omega (arith, ints))

abbrev pub AreSums : List ℤ → ℕ → List ℤ → ℤ → List ℤ → Type 0
AreSums row p piv den raw = (j : ℕ) → number raw j ≡ number (set row p (pos 0)) j *ℤ den +ℤ number row p *ℤ number piv j

-- the first number is not 0, so the divisor is positive and no greater
pub first_product : (row : List ℤ) (p : ℕ) (piv : List ℤ) (den factor : ℤ) (raw : List ℤ) → 2 ≤ p → pos 0 <ℤ number row 0 → pos 0 <ℤ den → number piv 0 ≡ pos 0
    → number raw 0 ≡ number (set row p (pos 0)) 0 *ℤ den +ℤ factor *ℤ number piv 0 → 0 < unsigned_abs (number raw 0)
first_product row p piv den factor raw l h i z s =
    let first : number (set row p (pos 0)) 0 ≡ number row 0 = get_or-set_other row p 0 (pos 0) (pos 0) (λ e. omega arith) in
    let value : number raw 0 ≡ number row 0 *ℤ den +ℤ pos 0 =
    s ∙ (λ t. first t *ℤ den +ℤ factor *ℤ z t) ∙ ap (λ y. number row 0 *ℤ den +ℤ y) (product_zero factor) in
    let same : number raw 0 ≡ number row 0 *ℤ den = value ∙ sum_zero (number row 0 *ℤ den) in
    subst (λ y. 0 < unsigned_abs y) (sym same) (positive_product (number row 0) den h i)

pub first_some : (row : List ℤ) (p : ℕ) (piv : List ℤ) (den : ℤ) (raw : List ℤ) → 2 ≤ p → pos 0 <ℤ number row 0 → pos 0 <ℤ den → number piv 0 ≡ pos 0 → AreSums row p piv den raw → 0 < unsigned_abs (number raw 0)
first_some row p piv den raw l h i z s = first_product row p piv den (number row p) raw l h i z (s 0)

pub divisor_positive : (raw : List ℤ) (g : ℕ) → 0 < unsigned_abs (number raw 0) → IsCommonDivisor raw g → 0 < g
divisor_positive raw g h d = pos_of_dvd_of_pos (d.divides 0) h

pub divisor_small : (raw : List ℤ) (g : ℕ) → 0 < unsigned_abs (number raw 0) → IsCommonDivisor raw g → g ≤ unsigned_abs (number raw 0)
divisor_small raw g h d = le_of_dvd h (d.divides 0)

-- the row divided by the divisor of all is in lowest form
pub lowered : (raw new : List ℤ) (g : ℕ) → IsCommonDivisor raw g → 0 < g → length new ≡ length raw → ((j : ℕ) → pos g *ℤ number new j ≡ number raw j) → IsLowered raw new
lowered raw new g d positive count each = record {
  count = count;
  k = g;
  factor = positive;
  same = λ j. sym (each j);
  lowest = λ m all. eq-one_of_dvd-one (dvd_of_mul-dvd-mul_left m positive (one_more m (d.greatest (g * m) (λ k. scaled m k (all k)))));
}
  where
    one_more : (m : ℕ) → (g * m) ∣ g → (g * m) ∣ (g * 1)
    one_more m h = let e : g ≡ g * 1 = omega arith in subst (λ n. (g * m) ∣ n) e h

    scaled : (m k : ℕ) → m ∣ unsigned_abs (number new k) → (g * m) ∣ unsigned_abs (number raw k)
    scaled m k h =
        let e : unsigned_abs (number raw k) ≡ g * unsigned_abs (number new k) = ap unsigned_abs (sym (each k)) ∙ unsigned_abs-mul (pos g) (number new k) in
        subst (λ n. (g * m) ∣ n) (sym e) (mul-dvd-mul_left m g h)

-- a row in lowest form whose numbers times a common number are the sums
pub combined_by : (row : List ℤ) (p : ℕ) (piv : List ℤ) (den : ℤ) (raw new : List ℤ) (g : ℕ) → 0 < g
    → ((j : ℕ) → number (set row p (pos 0)) j *ℤ den +ℤ number row p *ℤ number piv j ≡ pos g *ℤ number raw j) → length raw ≡ length row → IsLowered raw new → IsCombination row p piv den new
combined_by row p piv den raw new g positive s count l = record {
  count = l.count ∙ count;
  k = g * l.k;
  factor = (let h = l.factor in one-le-mul positive h);
  same = λ j. s j ∙ ap (λ z. pos g *ℤ z) (l.same j) ∙ ring (pos g ∷ pos l.k ∷ number new j ∷ []) (times (var 0) (times (var 1) (var 2))) (times (times (var 0) (var 1)) (var 2)) refl;
  lowest = l.lowest;
}

pub combined : (row : List ℤ) (p : ℕ) (piv : List ℤ) (den : ℤ) (raw new : List ℤ) (g : ℕ) → AreSums row p piv den raw → IsCommonDivisor raw g → 0 < g → length raw ≡ length row → length new ≡ length raw
    → ((j : ℕ) → pos g *ℤ number new j ≡ number raw j) → IsCombination row p piv den new
combined row p piv den raw new g s d positive count kept each =
    combined_by row p piv den raw new 1 (omega arith) (λ j. sym (s j) ∙ sym (one_product (number raw j))) count (lowered raw new g d positive kept each)

-- a row without the column's variable stays
pub combination_zero : (row : List ℤ) (p : ℕ) (piv : List ℤ) (den : ℤ) → pos 0 <ℤ den → number row p ≡ pos 0 → ((m : ℕ) → ((j : ℕ) → m ∣ unsigned_abs (number row j)) → m ≡ 1) → IsCombination row p piv den row
combination_zero row p piv (pos k) h e l = record {
  count = refl;
  k = k;
  factor = omega (arith, ints);
  same = λ j. (λ t. zeroed j t *ℤ pos k +ℤ e t *ℤ number piv j) ∙ ring (number row j ∷ pos k ∷ number piv j ∷ []) (plus (times (var 0) (var 1)) (times (num (pos 0)) (var 2))) (times (var 1) (var 0)) refl;
  lowest = l;
}
  where
    zeroed : (j : ℕ) → number (set row p (pos 0)) j ≡ number row j
    zeroed j = ap (λ r. number r j) (ap (set row p) (sym e) ∙ set-get_or row p (pos 0))
combination_zero row p piv (negsuc k) h e l = absurd (omega (arith, ints))
