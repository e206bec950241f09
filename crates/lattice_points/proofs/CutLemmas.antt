-- The numbers x of an extent with `level + slope * x` at least -1.
use Rattle.std.proofs.Common.{◌≡◌, ℕ, zero, suc, ◌+◌, ◌-◌, ◌%◌, ◌^◌, ◌<◌, ◌≤◌, true, false, refl, sym, ap, ◌∙◌, subst, arith, ℤ, pos, negsuc, ◌+ℤ◌, ◌-ℤ◌, ◌*ℤ◌, ◌≤ℤ◌, [], ◌∷◌, unsigned_abs, w64, to_z, of_z, to_z-of_z, FitsSigned, mul-le-mul_left}
use Rattle.std.specs.Prelude.{◌<ℤ◌, ◌↔◌}
use Rattle.std.specs.Int.{int_div_euclid}
use Rattle.std.proofs.lemmas.Int.{ints, by_lt_z, fits_signed_from_abs}
use borrow.Author.Differences.{up, down}
use lib.Signed.{lt_z}
use Rattle.ntfe_nums.proofs.Ring.{Expression, ring, right_sum, product_one}
use Rattle.ntfe_nums.proofs.Ring.Expression.{var, num, plus, minus, times}
use Rattle.ntfe_nums.proofs.Machine.{machine, raw, exact, fits, back}
use Rattle.ntfe_nums.specs.Sizes.{AreWithin}
use Rattle.ntfe_nums.proofs.Comparisons.{least_from_test, below_from_test}
use Rattle.ntfe_nums.proofs.Signs.{positive_bits}
use Rattle.lattice_points.specs.declared.bounds.Extent.{Extent}
use Rattle.lattice_points.specs.Boxes.{IsWithin}

-- ---- what tests say

pub rising_from_test : (s : ℤ) → FitsSigned w64 s → lt_z (pos 0) (to_z w64 (of_z w64 s)) ≡ true → pos 0 <ℤ s
rising_from_test s f h = below_from_test (pos 0) s (let P : ℤ → Type 0 = λ y. lt_z (pos 0) y ≡ true in subst P (to_z-of_z f) h)

pub flat_from_test : (s : ℤ) → FitsSigned w64 s → lt_z (pos 0) (to_z w64 (of_z w64 s)) ≡ false → s ≤ℤ pos 0
flat_from_test s f h = least_from_test (pos 0) s (let P : ℤ → Type 0 = λ y. lt_z (pos 0) y ≡ false in subst P (to_z-of_z f) h)

-- a positive number is a divisor
pub divides : (z s : ℤ) → z ≡ s → pos 0 <ℤ s → 0 < of_z w64 z
divides z s e h = let P : ℤ → Type 0 = λ y. 0 < of_z w64 y in subst P (sym e) (positive_bits s h)

-- ---- exact numbers

pub short_back : (z : ℤ) → unsigned_abs z ≤ 2 ^ 34 → to_z w64 (of_z w64 z) ≡ z
short_back z h = back w64 z (2 ^ 34) h (omega arith)

pub short_fits : (z : ℤ) → unsigned_abs z ≤ 2 ^ 34 → FitsSigned w64 z
short_fits z h = fits_signed_from_abs w64 z (omega arith)

pub end_fits : (high : ℤ) → unsigned_abs high ≤ 2 ^ 33 → FitsSigned w64 (to_z w64 (of_z w64 high) +ℤ pos 1)
end_fits high h = fits w64 (high ∷ []) (2 ^ 33 ∷ []) (h, tt) (plus (var 0) (num (pos 1))) refl

end_is : (high : ℤ) → unsigned_abs high ≤ 2 ^ 33 → to_z w64 (of_z w64 (to_z w64 (of_z w64 high) +ℤ pos 1)) ≡ high +ℤ pos 1
end_is high h = exact w64 (high ∷ []) (2 ^ 33 ∷ []) (h, tt) (plus (var 0) (num (pos 1))) refl

-- the test of a loop that goes up to the upper end
pub not_past : (z high : ℤ) → unsigned_abs high ≤ 2 ^ 33 → lt_z z (to_z w64 (of_z w64 (to_z w64 (of_z w64 high) +ℤ pos 1))) ≡ true → z ≤ℤ high
not_past z high h t =
    let k : z <ℤ (high +ℤ pos 1) = below_from_test z (high +ℤ pos 1) (subst (λ (y : ℤ). lt_z z y ≡ true) (end_is high h) t) in
    omega (arith, ints)

pub past : (z high : ℤ) → unsigned_abs high ≤ 2 ^ 33 → lt_z z (to_z w64 (of_z w64 (to_z w64 (of_z w64 high) +ℤ pos 1))) ≡ false → high <ℤ z
past z high h t =
    let k : (high +ℤ pos 1) ≤ℤ z = least_from_test z (high +ℤ pos 1) (subst (λ (y : ℤ). lt_z z y ≡ false) (end_is high h) t) in
    omega (arith, ints)

pub next_fits : (level : ℤ) → unsigned_abs level ≤ 2 ^ 32 → FitsSigned w64 (to_z w64 (of_z w64 level) +ℤ pos 1)
next_fits level h = fits w64 (level ∷ []) (2 ^ 32 ∷ []) (h, tt) (plus (var 0) (num (pos 1))) refl

next_is : (level : ℤ) → unsigned_abs level ≤ 2 ^ 32 → to_z w64 (of_z w64 (to_z w64 (of_z w64 level) +ℤ pos 1)) ≡ level +ℤ pos 1
next_is level h = exact w64 (level ∷ []) (2 ^ 32 ∷ []) (h, tt) (plus (var 0) (num (pos 1))) refl

pub opposite_is : (z : ℤ) → unsigned_abs z ≤ 2 ^ 33 → to_z w64 (of_z w64 (pos 0 -ℤ to_z w64 (of_z w64 z))) ≡ pos 0 -ℤ z
opposite_is z h = exact w64 (z ∷ []) (2 ^ 33 ∷ []) (h, tt) (minus (num (pos 0)) (var 0)) refl

pub opposite_fits : (z : ℤ) → unsigned_abs z ≤ 2 ^ 33 → FitsSigned w64 (pos 0 -ℤ to_z w64 (of_z w64 z))
opposite_fits z h = fits w64 (z ∷ []) (2 ^ 33 ∷ []) (h, tt) (minus (num (pos 0)) (var 0)) refl

-- the quotient that the code computes
pub quotient_from : (q level d s : ℤ) → unsigned_abs level ≤ 2 ^ 32 → d ≡ s → q ≡ int_div_euclid (to_z w64 (of_z w64 (to_z w64 (of_z w64 level) +ℤ pos 1))) d → q ≡ int_div_euclid (level +ℤ pos 1) s
quotient_from q level d s h e f = f ∙ (λ i. int_div_euclid (next_is level h i) (e i))

abbrev reachE : Expression
reachE = plus (var 0) (times (var 1) (var 2))

module _ (level slope z : ℤ) (hl : unsigned_abs level ≤ 2 ^ 32) (hs : unsigned_abs slope ≤ 2 ^ 21) (hz : unsigned_abs z ≤ 2 ^ 33) where
  pub product_fits : FitsSigned w64 (raw w64 (level ∷ slope ∷ z ∷ []) (times (var 1) (var 2)))
  product_fits = fits w64 (level ∷ slope ∷ z ∷ []) (2 ^ 32 ∷ 2 ^ 21 ∷ 2 ^ 33 ∷ []) (hl, (hs, (hz, tt))) (times (var 1) (var 2)) refl

  pub reach_fits : FitsSigned w64 (raw w64 (level ∷ slope ∷ z ∷ []) reachE)
  reach_fits = fits w64 (level ∷ slope ∷ z ∷ []) (2 ^ 32 ∷ 2 ^ 21 ∷ 2 ^ 33 ∷ []) (hl, (hs, (hz, tt))) reachE refl

  reach_is : machine w64 (level ∷ slope ∷ z ∷ []) reachE ≡ level +ℤ slope *ℤ z
  reach_is = exact w64 (level ∷ slope ∷ z ∷ []) (2 ^ 32 ∷ 2 ^ 21 ∷ 2 ^ 33 ∷ []) (hl, (hs, (hz, tt))) reachE refl

  pub reach_low : lt_z (machine w64 (level ∷ slope ∷ z ∷ []) reachE) (negsuc 0) ≡ true → (level +ℤ slope *ℤ z) <ℤ negsuc 0
  reach_low h = below_from_test _ _ (let P : ℤ → Type 0 = λ y. lt_z y (negsuc 0) ≡ true in subst P reach_is h)

  pub reach_high : lt_z (machine w64 (level ∷ slope ∷ z ∷ []) reachE) (negsuc 0) ≡ false → negsuc 0 ≤ℤ (level +ℤ slope *ℤ z)
  reach_high h = least_from_test _ _ (let P : ℤ → Type 0 = λ y. lt_z y (negsuc 0) ≡ false in subst P reach_is h)

-- ---- products and quotients

pub product_rises : (n : ℕ) (a b : ℤ) → a ≤ℤ b → (pos n *ℤ a) ≤ℤ (pos n *ℤ b)
product_rises n a b h =
    let k : up a + down b ≤ up b + down a = omega (arith, ints) in
    omega (arith, ints, mul-le-mul_left n k)

-- the quotient, and a remainder from 0 to n - 1
record IsQuotient (t : ℤ) (n : ℕ) (q : ℤ) : Type 0 where
  rest : ℕ
  below : rest < n
  is : t ≡ pos n *ℤ q +ℤ pos rest

quotient_is : (t : ℤ) (n : ℕ) → 0 < n → IsQuotient t n (int_div_euclid t (pos n))
quotient_is (pos a) n h = record { rest = a % n; below = omega arith; is = omega (arith, ints) }
quotient_is (negsuc a) n h = record { rest = n - 1 - a % n; below = omega arith; is = omega (arith, ints) }

quotient_size : (t : ℤ) (n : ℕ) → 0 < n → unsigned_abs (int_div_euclid t (pos n)) ≤ unsigned_abs t
quotient_size (pos a) n h = grind arith
quotient_size (negsuc a) n h = grind arith

below_quotient : (t : ℤ) (n : ℕ) → 0 < n → (y : ℤ) → y ≤ℤ int_div_euclid t (pos n) → (pos n *ℤ y) ≤ℤ t
below_quotient t n h y k =
    let q = quotient_is t n h in
    let m = product_rises n y (int_div_euclid t (pos n)) k in
    let e = q.is in
    omega (arith, ints)

quotient_below : (t : ℤ) (n : ℕ) → 0 < n → (y : ℤ) → (pos n *ℤ y) ≤ℤ t → y ≤ℤ int_div_euclid t (pos n)
quotient_below t n h y k =
    let z = int_div_euclid t (pos n) in
    by_lt_z z y (λ l.
    let q = quotient_is t n h in
    let a : (z +ℤ pos 1) ≤ℤ y = omega (arith, ints) in
    let m = product_rises n (z +ℤ pos 1) y a in
    let e = right_sum (pos n) z (pos 1) in
    let o = product_one (pos n) in
    let r = q.is in
    let b = q.below in
    absurd (omega (arith, ints))) (λ l. l)

opposite_product : (s x : ℤ) → s *ℤ (pos 0 -ℤ x) ≡ pos 0 -ℤ s *ℤ x
opposite_product s x = ring (s ∷ x ∷ []) (times (var 0) (minus (num (pos 0)) (var 1))) (minus (num (pos 0)) (times (var 0) (var 1))) refl

product_opposite : (s x : ℤ) → (pos 0 -ℤ s) *ℤ x ≡ pos 0 -ℤ s *ℤ x
product_opposite s x = ring (s ∷ x ∷ []) (times (minus (num (pos 0)) (var 0)) (var 1)) (minus (num (pos 0)) (times (var 0) (var 1))) refl

-- ---- a slope that is not negative: the value rises with x

rises : (s a b : ℤ) → pos 0 ≤ℤ s → a ≤ℤ b → (s *ℤ a) ≤ℤ (s *ℤ b)
rises (pos n) a b h k = product_rises n a b k
rises (negsuc n) a b h k = absurd (omega (arith, ints))

-- nothing up to b is left where the value at b is too small
pub none_up_to : (s level b : ℤ) → pos 0 ≤ℤ s → (level +ℤ s *ℤ b) <ℤ negsuc 0 → (x : ℤ) → x ≤ℤ b → negsuc 0 ≤ℤ (level +ℤ s *ℤ x) → ⊥
none_up_to s level b p t x h k = let m = rises s x b p h in omega (arith, ints)

-- all from a on is left where the value at a is not too small
pub all_from : (s level a : ℤ) → pos 0 ≤ℤ s → negsuc 0 ≤ℤ (level +ℤ s *ℤ a) → (x : ℤ) → a ≤ℤ x → negsuc 0 ≤ℤ (level +ℤ s *ℤ x)
all_from s level a p t x h = let m = rises s a x p h in omega (arith, ints)

-- where the slope is 0, all or nothing is left
pub flat : (s level a : ℤ) → pos 0 ≤ℤ s → s ≤ℤ pos 0 → negsuc 0 ≤ℤ (level +ℤ s *ℤ a) → (x : ℤ) → negsuc 0 ≤ℤ (level +ℤ s *ℤ x)
flat (pos zero) level a p q t x = omega (arith, ints)
flat (pos (suc n)) level a p q t x = absurd (omega (arith, ints))
flat (negsuc n) level a p q t x = absurd (omega (arith, ints))

pub low_quotient : (s level x : ℤ) → pos 0 <ℤ s → (pos 0 -ℤ int_div_euclid (level +ℤ pos 1) s) ≤ℤ x → negsuc 0 ≤ℤ (level +ℤ s *ℤ x)
low_quotient (pos n) level x p h =
    let a : (pos 0 -ℤ x) ≤ℤ int_div_euclid (level +ℤ pos 1) (pos n) = omega (arith, ints) in
    let b = below_quotient (level +ℤ pos 1) n (let k : 0 < n = omega (arith, ints) in k) (pos 0 -ℤ x) a in
    let e = opposite_product (pos n) x in
    omega (arith, ints)
low_quotient (negsuc n) level x p h = absurd (omega (arith, ints))

pub quotient_low : (s level x : ℤ) → pos 0 <ℤ s → negsuc 0 ≤ℤ (level +ℤ s *ℤ x) → (pos 0 -ℤ int_div_euclid (level +ℤ pos 1) s) ≤ℤ x
quotient_low (pos n) level x p h =
    let e = opposite_product (pos n) x in
    let b : (pos n *ℤ (pos 0 -ℤ x)) ≤ℤ (level +ℤ pos 1) = omega (arith, ints) in
    let a = quotient_below (level +ℤ pos 1) n (let k : 0 < n = omega (arith, ints) in k) (pos 0 -ℤ x) b in
    omega (arith, ints)
quotient_low (negsuc n) level x p h = absurd (omega (arith, ints))

pub quotient_bound : (s t : ℤ) → pos 0 <ℤ s → unsigned_abs (int_div_euclid t s) ≤ unsigned_abs t
quotient_bound (pos n) t p = quotient_size t n (omega (arith, ints))
quotient_bound (negsuc n) t p = absurd (omega (arith, ints))

-- the quotient is a short number
pub quotient_short : (q level s : ℤ) → pos 0 <ℤ s → unsigned_abs level ≤ 2 ^ 32 → q ≡ int_div_euclid (level +ℤ pos 1) s → unsigned_abs q ≤ 2 ^ 33
quotient_short q level s p h e =
    let b = quotient_bound s (level +ℤ pos 1) p in
    let c : unsigned_abs q ≤ unsigned_abs (level +ℤ pos 1) = (let P : ℤ → Type 0 = λ y. unsigned_abs y ≤ unsigned_abs (level +ℤ pos 1) in subst P (sym e) b) in
    let d : unsigned_abs (level +ℤ pos 1) ≤ unsigned_abs level + 1 = omega (arith, ints) in
    omega arith

-- the lower end moves up to the quotient
pub cut_low : (s level low high : ℤ) → pos 0 <ℤ s → (level +ℤ s *ℤ low) <ℤ negsuc 0 → (x : ℤ)
    → IsWithin (record { low = pos 0 -ℤ int_div_euclid (level +ℤ pos 1) s; high = high }) x ↔ (IsWithin (record { low = low; high = high }) x × (negsuc 0 ≤ℤ (level +ℤ s *ℤ x)))
cut_low s level low high p t x =
    let q : pos 0 ≤ℤ s = omega (arith, ints) in (
      λ w.
          let v = low_quotient s level x p w.low in
          (record { low = by_lt_z x low (λ l. absurd (none_up_to s level low q t x (let k : x ≤ℤ low = omega (arith, ints) in k) v)) (λ l. l); high = w.high }, v),
      λ (w, v). record { low = quotient_low s level x p v; high = w.high },
    )

-- ---- a negative slope: the value falls

pub none_from : (s level a : ℤ) → s <ℤ pos 0 → (level +ℤ s *ℤ a) <ℤ negsuc 0 → (x : ℤ) → a ≤ℤ x → negsuc 0 ≤ℤ (level +ℤ s *ℤ x) → ⊥
none_from s level a p t x h k =
    let m = rises (pos 0 -ℤ s) a x (omega (arith, ints)) h in
    let e = product_opposite s a in
    let f = product_opposite s x in
    omega (arith, ints)

pub all_up_to : (s level b : ℤ) → s <ℤ pos 0 → negsuc 0 ≤ℤ (level +ℤ s *ℤ b) → (x : ℤ) → x ≤ℤ b → negsuc 0 ≤ℤ (level +ℤ s *ℤ x)
all_up_to s level b p t x h =
    let m = rises (pos 0 -ℤ s) x b (omega (arith, ints)) h in
    let e = product_opposite s b in
    let f = product_opposite s x in
    omega (arith, ints)

high_quotient : (n : ℕ) (s level x : ℤ) → pos 0 -ℤ s ≡ pos n → 0 < n → x ≤ℤ int_div_euclid (level +ℤ pos 1) (pos n) → negsuc 0 ≤ℤ (level +ℤ s *ℤ x)
high_quotient n s level x e p h =
    let b = below_quotient (level +ℤ pos 1) n p x h in
    let f = product_opposite s x in
    let g = ap (λ k. k *ℤ x) e in
    omega (arith, ints)

quotient_high : (n : ℕ) (s level x : ℤ) → pos 0 -ℤ s ≡ pos n → 0 < n → negsuc 0 ≤ℤ (level +ℤ s *ℤ x) → x ≤ℤ int_div_euclid (level +ℤ pos 1) (pos n)
quotient_high n s level x e p h =
    let f = product_opposite s x in
    let g = ap (λ k. k *ℤ x) e in
    let b : (pos n *ℤ x) ≤ℤ (level +ℤ pos 1) = omega (arith, ints) in
    quotient_below (level +ℤ pos 1) n p x b

-- the upper end moves down to the quotient
pub cut_high : (s level low high : ℤ) → s <ℤ pos 0 → (level +ℤ s *ℤ high) <ℤ negsuc 0 → (x : ℤ)
    → IsWithin (record { low = low; high = int_div_euclid (level +ℤ pos 1) (pos 0 -ℤ s) }) x ↔ (IsWithin (record { low = low; high = high }) x × (negsuc 0 ≤ℤ (level +ℤ s *ℤ x)))
cut_high (pos n) level low high p t x = absurd (omega (arith, ints))
cut_high (negsuc n) level low high p t x =
    let e : pos 0 -ℤ negsuc n ≡ pos (suc n) = omega (arith, ints) in
    let f : int_div_euclid (level +ℤ pos 1) (pos 0 -ℤ negsuc n) ≡ int_div_euclid (level +ℤ pos 1) (pos (suc n)) = ap (int_div_euclid (level +ℤ pos 1)) e in (
      λ w.
          let k : x ≤ℤ int_div_euclid (level +ℤ pos 1) (pos (suc n)) = subst (λ (y : ℤ). x ≤ℤ y) f w.high in
          let v = high_quotient (suc n) (negsuc n) level x e (omega arith) k in
          (record { low = w.low; high = by_lt_z high x (λ l. absurd (none_from (negsuc n) level high p t x (let j : high ≤ℤ x = omega (arith, ints) in j) v)) (λ l. l) }, v),
      λ (w, v). record { low = w.low; high = subst (λ (y : ℤ). x ≤ℤ y) (sym f) (quotient_high (suc n) (negsuc n) level x e (omega arith) v) },
    )

-- the same at equal numbers
pub cut_same : (r left : Extent) (level slope a b : ℤ) → a ≡ level → b ≡ slope
    → ((x : ℤ) → IsWithin r x ↔ (IsWithin left x × (negsuc 0 ≤ℤ (a +ℤ b *ℤ x)))) → (x : ℤ) → IsWithin r x ↔ (IsWithin left x × (negsuc 0 ≤ℤ (level +ℤ slope *ℤ x)))
cut_same r left level slope a b e f h x =
    let P : ℤ → Type 0 = λ y. IsWithin r x ↔ (IsWithin left x × (negsuc 0 ≤ℤ y)) in
    subst P (λ i. e i +ℤ f i *ℤ x) (h x)

-- nothing lies in an extent whose ends have passed each other
pub empty_extent : (e : Extent) → AreWithin (2 ^ 33) (e.low ∷ e.high ∷ []) → lt_z (to_z w64 (of_z w64 e.high)) (to_z w64 (of_z w64 e.low)) ≡ true → (x : ℤ) → IsWithin e x → ⊥
empty_extent e s t x w =
    let a : unsigned_abs e.low ≤ 2 ^ 34 = (let h = s.0 in omega arith) in
    let b : unsigned_abs e.high ≤ 2 ^ 34 = (let h = s.1.0 in omega arith) in
    let k : e.high <ℤ to_z w64 (of_z w64 e.low) = below_from_test e.high (to_z w64 (of_z w64 e.low)) (subst (λ (y : ℤ). lt_z y (to_z w64 (of_z w64 e.low)) ≡ true) (short_back e.high b) t) in
    let l = short_back e.low a in
    let p = w.low in
    let q = w.high in
    omega (arith, ints)
