-- Determinants as products with a normal, and signed words of their size.
use Rattle.std.proofs.Common.{◌≡◌, ◌^◌, ◌≤◌, ◌∙◌, refl, sym, ap, true, false, arith, ℤ, pos, ◌<ℤ◌, ◌≤ℤ◌, ◌-ℤ◌, neg_ℤ, [], ◌∷◌, unsigned_abs, to_z, of_z}
use lib.Signed.{lt_z}
use Rattle.std.proofs.lemmas.Int.{ints}
use Rattle.std.specs.Int.{w64, w128}
use Rattle.ntfe_nums.specs.Vectors.{Vector, dot, det4, cofactors}
use Rattle.ntfe_nums.proofs.Ring.{ring}
use Rattle.ntfe_nums.proofs.Ring.Expression.{var, num, minus, neg}
use Rattle.ntfe_nums.proofs.DetLemmas.{row, det4E, dotE, normalE, of4}
use Rattle.ntfe_nums.proofs.Machine.{exact, back}
use Rattle.ntfe_nums.proofs.Comparisons.{least_from_test, below_from_test}
use Rattle.ntfe_nums.proofs.Signs.{zero_minus}

-- ---- signed words

pub same_word : (z : ℤ) → unsigned_abs z ≤ 2 ^ 48 → to_z w128 (of_z w128 z) ≡ z
same_word z s = back w128 z (2 ^ 48) s (omega arith)

module _ (z : ℤ) (s : unsigned_abs z ≤ 2 ^ 48) where
  pub negative_from_test : lt_z (to_z w128 (of_z w128 z)) (pos 0) ≡ true → z <ℤ pos 0
  negative_from_test t = below_from_test z (pos 0) (ap (λ y. lt_z y (pos 0)) (sym (same_word z s)) ∙ t)

  pub not_negative_from_test : lt_z (to_z w128 (of_z w128 z)) (pos 0) ≡ false → pos 0 ≤ℤ z
  not_negative_from_test t = least_from_test z (pos 0) (ap (λ y. lt_z y (pos 0)) (sym (same_word z s)) ∙ t)

-- ---- short words

pub same_short : (z : ℤ) → unsigned_abs z ≤ 2 ^ 48 → to_z w64 (of_z w64 z) ≡ z
same_short z s = back w64 z (2 ^ 48) s (omega arith)

pub turned_short : (z : ℤ) → unsigned_abs z ≤ 2 ^ 48 → to_z w64 (of_z w64 (pos 0 -ℤ to_z w64 (of_z w64 z))) ≡ neg_ℤ z
turned_short z s = exact w64 (z ∷ []) (2 ^ 48 ∷ []) (s, tt) (minus (num (pos 0)) (var 0)) refl ∙ zero_minus z

pub widened : (z : ℤ) → unsigned_abs z ≤ 2 ^ 48 → to_z w128 (of_z w128 (to_z w64 (of_z w64 z))) ≡ z
widened z s = ap (λ y. to_z w128 (of_z w128 y)) (same_short z s) ∙ same_word z s

module _ (z : ℤ) (s : unsigned_abs z ≤ 2 ^ 48) where
  pub negative_from_short : lt_z (to_z w64 (of_z w64 z)) (pos 0) ≡ true → z <ℤ pos 0
  negative_from_short t = below_from_test z (pos 0) (ap (λ y. lt_z y (pos 0)) (sym (same_short z s)) ∙ t)

  pub not_negative_from_short : lt_z (to_z w64 (of_z w64 z)) (pos 0) ≡ false → pos 0 ≤ℤ z
  not_negative_from_short t = least_from_test z (pos 0) (ap (λ y. lt_z y (pos 0)) (sym (same_short z s)) ∙ t)

-- ---- the size of a number that is turned over

pub turned_size : (z : ℤ) → unsigned_abs z ≤ 2 ^ 48 → unsigned_abs (neg_ℤ z) ≤ 2 ^ 48
turned_size z s = omega (arith, ints, s)

-- ---- shares: products with a normal, whose rows may be exchanged

module _ (a b c d p : Vector) where
  pub first_share : dot (cofactors c b d) p ≡ det4 p b c d
  unfolding det4 cofactors
  first_share = ring (of4 p b c d) (dotE (normalE (row 8) (row 4) (row 12)) (row 0)) (det4E (row 0) (row 4) (row 8) (row 12)) refl

  pub second_share : dot (cofactors a c d) p ≡ det4 a p c d
  unfolding det4 cofactors
  second_share = ring (of4 a p c d) (dotE (normalE (row 0) (row 8) (row 12)) (row 4)) (det4E (row 0) (row 4) (row 8) (row 12)) refl

  pub third_share : dot (cofactors b a d) p ≡ det4 a b p d
  unfolding det4 cofactors
  third_share = ring (of4 a b p d) (dotE (normalE (row 4) (row 0) (row 12)) (row 8)) (det4E (row 0) (row 4) (row 8) (row 12)) refl

  pub fourth_share : dot (cofactors a b c) p ≡ det4 a b c p
  unfolding det4 cofactors
  fourth_share = ring (of4 a b c p) (dotE (normalE (row 0) (row 4) (row 8)) (row 12)) (det4E (row 0) (row 4) (row 8) (row 12)) refl

  pub first_turned : dot (cofactors b c d) p ≡ neg_ℤ (det4 p b c d)
  unfolding det4 cofactors
  first_turned = ring (of4 p b c d) (dotE (normalE (row 4) (row 8) (row 12)) (row 0)) (neg (det4E (row 0) (row 4) (row 8) (row 12))) refl

  pub second_turned : dot (cofactors c a d) p ≡ neg_ℤ (det4 a p c d)
  unfolding det4 cofactors
  second_turned = ring (of4 a p c d) (dotE (normalE (row 8) (row 0) (row 12)) (row 4)) (neg (det4E (row 0) (row 4) (row 8) (row 12))) refl

  pub third_turned : dot (cofactors a b d) p ≡ neg_ℤ (det4 a b p d)
  unfolding det4 cofactors
  third_turned = ring (of4 a b p d) (dotE (normalE (row 0) (row 4) (row 12)) (row 8)) (neg (det4E (row 0) (row 4) (row 8) (row 12))) refl

  pub fourth_turned : dot (cofactors b a c) p ≡ neg_ℤ (det4 a b c p)
  unfolding det4 cofactors
  fourth_turned = ring (of4 a b c p) (dotE (normalE (row 4) (row 0) (row 8)) (row 12)) (neg (det4E (row 0) (row 4) (row 8) (row 12))) refl
