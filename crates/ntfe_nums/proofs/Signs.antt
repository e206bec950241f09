-- Signs of whole numbers, of their sums and of their products.
use Rattle.std.proofs.Common.{◌≡◌, ◌≢◌, ℕ, zero, suc, ◌==◌, ◌⊎◌, inl, inr, ⊎_elim, Bool, true, false, refl, ap, ◌∙◌, subst, arith, ℤ, pos, negsuc, ◌+ℤ◌, ◌-ℤ◌, ◌*ℤ◌, ◌<ℤ◌, ◌≤ℤ◌, neg_ℤ, unsigned_abs, ◌<◌, w64, of_z, to_z, [], ◌∷◌}
use Rattle.std.proofs.lemmas.Int.{ints}
use Rattle.std.proofs.lemmas.Bool.Decides.{nat_tests}
use Rattle.ntfe_nums.proofs.Ring.{ring}
use Rattle.ntfe_nums.proofs.Ring.Expression.{var, num, minus, times, neg}

-- ---- cases

pub same_or : (i j : ℕ) → (i ≡ j) ⊎ (i ≢ j)
same_or i j = by (i == j) refl
  where
    yes : (i == j) ≡ true → i ≡ j
    yes e = grind (arith, nat_tests)

    no : (i == j) ≡ false → i ≢ j
    no e q = absurd (grind (arith, nat_tests))

    by : (t : Bool) → (i == j) ≡ t → (i ≡ j) ⊎ (i ≢ j)
    by true e = inl (yes e)
    by false e = inr (no e)

pub zero_or : (z : ℤ) → (z ≡ pos 0) ⊎ (z ≢ pos 0)
zero_or (pos zero) = inl refl
zero_or (pos (suc n)) = inr (λ e. absurd (omega (arith, ints, e)))
zero_or (negsuc n) = inr (λ e. absurd (omega (arith, ints, e)))

pub sign_of : (z : ℤ) → (pos 0 <ℤ z) ⊎ (z ≤ℤ pos 0)
sign_of (pos zero) = inr (omega (arith, ints))
sign_of (pos (suc n)) = inl (omega (arith, ints))
sign_of (negsuc n) = inr (omega (arith, ints))

pub negative_or : (z : ℤ) → (z <ℤ pos 0) ⊎ (pos 0 ≤ℤ z)
negative_or (pos n) = inr (omega (arith, ints))
negative_or (negsuc n) = inl (omega (arith, ints))

pub above_zero : (z : ℤ) → pos 0 ≤ℤ z → z ≢ pos 0 → pos 0 <ℤ z
above_zero z l n = grind (arith, ints)

pub not_negative : (z : ℤ) → pos 0 <ℤ z → pos 0 ≤ℤ z
not_negative z l = omega (arith, ints, l)

pub positive_some : (z : ℤ) → pos 0 <ℤ z → z ≢ pos 0
positive_some z l e = absurd (omega (arith, ints, l, e))

pub zero_not_negative : (z : ℤ) → z ≡ pos 0 → pos 0 ≤ℤ z
zero_not_negative z e = omega (arith, ints, e)

pub zero_between : (z : ℤ) → pos 0 ≤ℤ z → z ≤ℤ pos 0 → z ≡ pos 0
zero_between z h k = omega (arith, ints, h, k)

pub negative_turned : (z : ℤ) → z <ℤ pos 0 → pos 0 <ℤ neg_ℤ z
negative_turned z h = omega (arith, ints, h)

pub positive_same : (x y : ℤ) → x ≡ y → pos 0 <ℤ x → pos 0 <ℤ y
positive_same x y e l = let P : ℤ → Type 0 = λ z. pos 0 <ℤ z in subst P e l

pub not_both_signs : (x y : ℤ) → x ≡ y → x ≤ℤ pos 0 → pos 0 <ℤ y → ⊥
not_both_signs x y e h k = absurd (omega (arith, ints, e, h, k))

pub some_size : (z : ℤ) → pos 0 <ℤ z → 0 < unsigned_abs z
some_size z h = omega (arith, ints)

pub size_zero : (z : ℤ) → unsigned_abs z ≡ 0 → z ≡ pos 0
size_zero z e = omega (arith, ints, e)

-- ---- orders

pub three_orders : (m n : ℕ) → (m < n) ⊎ ((m ≡ n) ⊎ (n < m))
three_orders m n = grind arith

pub two_orders : (m n : ℕ) → m ≢ n → (m < n) ⊎ (n < m)
two_orders m n d = grind (arith, d)

pub less_or_least : (y z : ℤ) → (y ≤ℤ z) ⊎ (z ≤ℤ y)
less_or_least y z = grind (arith, ints)

pub least_once : (y z : ℤ) → y ≤ℤ z → z ≤ℤ y → y ≡ z
least_once y z h k = omega (arith, ints, h, k)

-- ---- sums

pub zero_minus : (z : ℤ) → pos 0 -ℤ z ≡ neg_ℤ z
zero_minus z = omega (arith, ints)

pub no_difference : (a b : ℤ) → b -ℤ a ≡ pos 0 → a ≡ b
no_difference a b e = omega (arith, ints, e)

pub same_numbers_apart : (a b : ℤ) → a ≡ b → a -ℤ b ≡ pos 0
same_numbers_apart a b e = omega (arith, ints, e)

pub none_apart : (a b : ℤ) → a -ℤ b ≡ pos 0 → a ≡ b
none_apart a b e = omega (arith, ints, e)

pub sum_positive : (y z : ℤ) → pos 0 <ℤ y → pos 0 <ℤ z → pos 0 <ℤ (y +ℤ z)
sum_positive y z l m = omega (arith, ints, l, m)

pub sum_not_negative : (y z : ℤ) → pos 0 ≤ℤ y → pos 0 ≤ℤ z → pos 0 ≤ℤ (y +ℤ z)
sum_not_negative y z l m = omega (arith, ints, l, m)

pub no_sum : (x y z : ℤ) → x ≡ pos 0 → y ≡ pos 0 → z ≡ pos 0 → x +ℤ y +ℤ z ≡ pos 0
no_sum x y z e f g = omega (arith, ints, e, f, g)

-- ---- products

pub positive_product : (a b : ℤ) → pos 0 <ℤ a → pos 0 <ℤ b → pos 0 <ℤ (a *ℤ b)
positive_product (pos zero) b h k = absurd (omega (arith, ints, h))
positive_product (negsuc m) b h k = absurd (omega (arith, ints, h))
positive_product (pos (suc m)) (pos zero) h k = absurd (omega (arith, ints, k))
positive_product (pos (suc m)) (negsuc n) h k = absurd (omega (arith, ints, k))
positive_product (pos (suc m)) (pos (suc n)) h k = omega (arith, ints)

pub product_zero : (k : ℤ) → k *ℤ pos 0 ≡ pos 0
product_zero k = omega (arith, ints)

pub product_exchanged : (y z : ℤ) → y *ℤ z ≡ z *ℤ y
product_exchanged y z = omega (arith, ints)

pub product_not_negative : (a b : ℤ) → pos 0 ≤ℤ a → pos 0 ≤ℤ b → pos 0 ≤ℤ (a *ℤ b)
product_not_negative (negsuc m) b h k = absurd (omega (arith, ints, h))
product_not_negative (pos m) (negsuc n) h k = absurd (omega (arith, ints, k))
product_not_negative (pos m) (pos n) h k = omega (arith, ints)

pub product_not_positive : (a b : ℤ) → pos 0 ≤ℤ a → b ≤ℤ pos 0 → (a *ℤ b) ≤ℤ pos 0
product_not_positive a b h k =
    by (a *ℤ (pos 0 -ℤ b)) (a *ℤ b) (product_not_negative a (pos 0 -ℤ b) h (omega (arith, ints, k)))
    (ring (a ∷ b ∷ []) (times (var 0) (minus (num (pos 0)) (var 1))) (minus (num (pos 0)) (times (var 0) (var 1))) refl)
  where
    by : (x y : ℤ) → pos 0 ≤ℤ x → x ≡ pos 0 -ℤ y → y ≤ℤ pos 0
    by x y l e = omega (arith, ints, l, e)

pub factor_not_negative : (k z : ℤ) → pos 0 <ℤ k → pos 0 ≤ℤ (k *ℤ z) → pos 0 ≤ℤ z
factor_not_negative k (pos n) h l = omega (arith, ints)
factor_not_negative k (negsuc n) h l =
    no (k *ℤ pos (suc n)) (k *ℤ negsuc n) (positive_product k (pos (suc n)) h (omega (arith, ints)))
    (ring (k ∷ pos (suc n) ∷ []) (times (var 0) (var 1)) (minus (num (pos 0)) (times (var 0) (neg (var 1)))) refl) l
  where
    no : (x y : ℤ) → pos 0 <ℤ x → x ≡ pos 0 -ℤ y → pos 0 ≤ℤ y → pos 0 ≤ℤ negsuc n
    no x y p e q = absurd (omega (arith, ints, p, e, q))

pub square_not_negative : (z : ℤ) → pos 0 ≤ℤ (z *ℤ z)
square_not_negative (pos n) = product_not_negative (pos n) (pos n) (omega (arith, ints)) (omega (arith, ints))
square_not_negative (negsuc n) = omega (arith, ints)

pub zero_out : (k z : ℤ) → z ≡ pos 0 → k *ℤ z ≡ pos 0
zero_out k z e = ap (λ y. k *ℤ y) e ∙ product_zero k

pub square_positive : (z : ℤ) → z ≢ pos 0 → pos 0 <ℤ (z *ℤ z)
square_positive z n = ⊎_elim (λ p. positive_product z z p p) (λ p. subst (λ y. pos 0 <ℤ y) (ring (z ∷ []) (times (neg (var 0)) (neg (var 0))) (times (var 0) (var 0)) refl) (positive_product (neg_ℤ z) (neg_ℤ z) p p)) (sides z n)
  where
    sides : (z : ℤ) → z ≢ pos 0 → (pos 0 <ℤ z) ⊎ (pos 0 <ℤ neg_ℤ z)
    sides z n = grind (arith, ints)

-- ---- words of 64 bits

abbrev pub word : ℤ → ℤ
word z = to_z w64 (of_z w64 z)

pub bits_of_zero : (z : ℤ) → z ≡ pos 0 → of_z w64 z ≡ 0
bits_of_zero z e = ap (of_z w64) e

pub positive_bits : (s : ℤ) → pos 0 <ℤ s → 0 < of_z w64 s
positive_bits (pos n) h = omega (arith, ints)
positive_bits (negsuc n) h = absurd (omega (arith, ints))
