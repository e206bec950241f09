-- What comparisons of numbers and tests of truth values say.
use Rattle.std.proofs.Common.{◌≡◌, ◌≢◌, ◌==◌, ◌&&◌, ◌*◌, ◌<◌, nat_le, not, ℕ, zero, suc, Bool, true, false, refl, ap, arith, ℤ, pos, ◌<ℤ◌, ◌≤ℤ◌, cond}
use lib.Signed.{lt_z}
use Rattle.std.specs.Ordering.{int_eq}
use Rattle.std.proofs.lemmas.Int.{ints}
use Rattle.std.proofs.lemmas.Bool.Decides.{nat_tests, Decides-int_eq}

-- ---- truth values

pub both : (p q : Bool) → (p && q) ≡ true → (p ≡ true) × (q ≡ true)
both true q e = (refl, e)
both false q e = cc

pub not_false : (b : Bool) → not b ≡ false → b ≡ true
not_false true e = cc
not_false false e = cc

pub not_true : (b : Bool) → not b ≡ true → b ≡ false
not_true true e = cc
not_true false e = cc

pub cond_is : (t : Bool) (x y z : ℤ) → (t ≡ true → x ≡ z) → (t ≡ false → y ≡ z) → cond t x y ≡ z
cond_is true x y z f g = f refl
cond_is false x y z f g = g refl

-- ---- natural numbers

pub same_from_test : (m n : ℕ) → (m == n) ≡ true → m ≡ n
same_from_test m n e = grind (arith, nat_tests)

pub other_from_test : (m n : ℕ) → (m == n) ≡ false → m ≢ n
other_from_test m n e q = absurd (grind (arith, nat_tests))

pub test_from_same : (m n : ℕ) → m ≡ n → (m == n) ≡ true
test_from_same m n e = grind (arith, nat_tests)

pub not_le : (m n : ℕ) → n < m → nat_le m n ≡ false
not_le m n h = grind (arith, nat_tests)

-- a multiple below the number itself is none
pub small_factor : (n d : ℕ) → n * d < d → n ≡ 0
small_factor zero d h = refl
small_factor (suc m) d h = absurd (omega arith)

-- ---- whole numbers

pub below_from_test : (a b : ℤ) → lt_z a b ≡ true → a <ℤ b
below_from_test a b h = grind (arith, ints)

pub least_from_test : (a b : ℤ) → lt_z a b ≡ false → b ≤ℤ a
least_from_test a b h = grind (arith, ints)

pub zero_fails : (z : ℤ) → z ≡ pos 0 → not (int_eq z (pos 0)) ≡ false
zero_fails z e = ap (λ y. not (int_eq y (pos 0))) e

pub other_passes : (z : ℤ) → z ≢ pos 0 → not (int_eq z (pos 0)) ≡ true
other_passes z ne = by (int_eq z (pos 0)) (Decides-int_eq z (pos 0)).0
  where
    by : (b : Bool) → (b ≡ true → z ≡ pos 0) → not b ≡ true
    by true f = absurd (ne (f refl))
    by false f = refl
