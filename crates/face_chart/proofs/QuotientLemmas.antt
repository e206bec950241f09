-- Quotients of small numbers.
use Rattle.std.proofs.Common.{◌≡◌, ℕ, ◌+◌, ◌*◌, ◌<◌, ◌≤◌, ◌⊎◌, inl, inr, refl, sym, ap, ◌∙◌, subst, arith, ℤ, pos, ◌+ℤ◌, ◌-ℤ◌, ◌*ℤ◌, ◌<ℤ◌, [], ◌∷◌, unsigned_abs, w64, to_z, of_z, FitsSigned, mul-le-mul}
use Rattle.std.specs.Int.RustNames.{int_div, int_rem}
use Rattle.std.proofs.lemmas.Int.{ints, quot-rem, rem_below, unsigned_abs-mul, quot_is, quot_fits, fits_signed_from_abs}
use Rattle.ntfe_nums.proofs.Ring.{ring}
use Rattle.ntfe_nums.proofs.Ring.Expression.{var, minus, times}
use Rattle.ntfe_nums.proofs.Machine.{back}
use Rattle.ntfe_nums.proofs.Signs.{size_zero, positive_bits, some_size}
use Rattle.ntfe_nums.proofs.Comparisons.{small_factor}

size_nat : (q a r d : ℕ) → q * d ≤ a + r → r < d → q ≤ a
size_nat q a r d h l = by (le_or q a)
  where
    le_or : (m n : ℕ) → (m ≤ n) ⊎ (n + 1 ≤ m)
    le_or m n = grind arith

    by : (q ≤ a) ⊎ (a + 1 ≤ q) → q ≤ a
    by (inl ok) = ok
    by (inr more) =
        let m : (a + 1) * d ≤ q * d = mul-le-mul more (let k : d ≤ d = omega arith in k) in
        let n : a * 1 ≤ a * d = mul-le-mul (let k : a ≤ a = omega arith in k) (let k : 1 ≤ d = omega arith in k) in
        absurd (omega (arith, m, n, h, l))

-- a multiple of d divided by d
pub exact_quotient : (s d : ℤ) → pos 0 <ℤ d → int_div (s *ℤ d) d ≡ s
exact_quotient s d h =
    let q = int_div (s *ℤ d) d in
    let r = int_rem (s *ℤ d) d in
    let e : (s -ℤ q) *ℤ d ≡ s *ℤ d -ℤ q *ℤ d = ring (s ∷ q ∷ d ∷ []) (times (minus (var 0) (var 1)) (var 2)) (minus (times (var 0) (var 2)) (times (var 1) (var 2))) refl in
    let f : (s -ℤ q) *ℤ d ≡ r = e ∙ rest (q *ℤ d) r (s *ℤ d) (quot-rem (s *ℤ d) d) in
    let z = small_factor (unsigned_abs (s -ℤ q)) (unsigned_abs d) (below _ _ _ (sym (unsigned_abs-mul (s -ℤ q) d) ∙ ap unsigned_abs f) (rem_below (s *ℤ d) d (some_size d h))) in
    same s q (size_zero (s -ℤ q) z)
  where
    rest : (x y z : ℤ) → x +ℤ y ≡ z → z -ℤ x ≡ y
    rest x y z g = omega (arith, ints, g)

    below : (x y z : ℕ) → x ≡ y → y < z → x < z
    below x y z g k = omega (arith, g, k)

    same : (x y : ℤ) → x -ℤ y ≡ pos 0 → y ≡ x
    same x y g = omega (arith, ints, g)

-- a quotient is no larger than what is divided
pub quotient_size : (a d : ℤ) → pos 0 <ℤ d → unsigned_abs (int_div a d) ≤ unsigned_abs a
quotient_size a d h =
    let q = int_div a d in
    let r = int_rem a d in
    size_nat (unsigned_abs q) (unsigned_abs a) (unsigned_abs r) (unsigned_abs d)
    (at_most _ _ _ (unsigned_abs-mul q d) (rest (q *ℤ d) r a (quot-rem a d))) (rem_below a d (some_size d h))
  where
    rest : (x y z : ℤ) → x +ℤ y ≡ z → unsigned_abs x ≤ unsigned_abs z + unsigned_abs y
    rest x y z g = omega (arith, ints, g)

    at_most : (x y z : ℕ) → x ≡ y → x ≤ z → y ≤ z
    at_most x y z g k = omega (arith, g, k)

-- ---- in words of 64 bits

word_fits : (z : ℤ) → unsigned_abs z ≤ 16777216 → FitsSigned w64 z
word_fits z s = fits_signed_from_abs w64 z (omega arith)

module _ (a d : ℤ) (s : unsigned_abs a ≤ 16777216) (t : unsigned_abs d ≤ 16777216) (h : pos 0 <ℤ d) where
  pub quotient_fits : (0 < of_z w64 d) × FitsSigned w64 (int_div (to_z w64 (of_z w64 a)) (to_z w64 (of_z w64 d)))
  quotient_fits = (
    positive_bits d h,
    subst (λ (z : ℤ × ℤ). FitsSigned w64 (int_div z.0 z.1)) (λ i. (sym (back w64 a 16777216 s (omega arith)) i, sym (back w64 d 16777216 t (omega arith)) i)) (quot_fits w64 a d (word_fits a s) h),
  )

  pub quotient_is : to_z w64 (of_z w64 (int_div (to_z w64 (of_z w64 a)) (to_z w64 (of_z w64 d)))) ≡ int_div a d
  quotient_is = quot_is w64 a d (word_fits a s) (word_fits d t) (quot_fits w64 a d (word_fits a s) h)

  pub quotient_small : unsigned_abs (to_z w64 (of_z w64 (int_div (to_z w64 (of_z w64 a)) (to_z w64 (of_z w64 d))))) ≤ 16777216
  quotient_small =
      let P : ℤ → Type 0 = λ z. unsigned_abs z ≤ 16777216 in
      subst P (sym quotient_is) (let k = quotient_size a d h in omega (arith, k, s))
