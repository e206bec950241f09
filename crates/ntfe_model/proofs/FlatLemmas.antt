-- Small points in two coordinates, and their areas.
use Rattle.std.proofs.Common.{◌≡◌, ℕ, ◌-◌, ◌≤◌, true, false, sym, ap, ◌∙◌, arith, ℤ, pos, ◌<ℤ◌, ◌≤ℤ◌, List, [], ◌∷◌, unsigned_abs, w64, to_z, of_z}
use Rattle.std.proofs.lemmas.Int.{ints}
use lib.Signed.{lt_z, le_z}
use Rattle.ntfe_nums.specs.Vectors.{Vector, numbers, coordinate}
use Rattle.ntfe_nums.proofs.Ring.{Expression}
use Rattle.ntfe_nums.proofs.Ring.Expression.{var, minus, times}
use Rattle.ntfe_nums.proofs.Machine.{AreBounded, AreWithin-four, back}
use Rattle.ntfe_nums.proofs.Comparisons.{least_from_test, below_from_test}
use Rattle.ntfe_model.specs.Pairs.{IsSmall}
use Rattle.ntfe_model.specs.declared.flat.Flat.{Flat}
use Rattle.ntfe_model.specs.Flats.{IsSmallFlat, flat_of}
use Rattle.ntfe_model.proofs.SmallVectors.{small_numbers}

pub small_coordinate : (k : ℕ) (v : Vector) → IsSmall v → unsigned_abs (coordinate k v) ≤ 1023
small_coordinate k v s = AreWithin-four 1023 (numbers v) (small_numbers v s) (k - 1)

pub small_flat : (q : ℕ × ℕ) (v : Vector) → IsSmall v → IsSmallFlat (flat_of q v)
small_flat q v s = record { small = (small_coordinate q.0 v s, (small_coordinate q.1 v s, tt)) }

-- what a test for 0 says
pub zero_from_bits : (z : ℤ) → unsigned_abs z ≤ 16777216 → of_z w64 z ≡ 0 → z ≡ pos 0
zero_from_bits z s e = sym (back w64 z 16777216 s (omega arith)) ∙ ap (to_z w64) e

most_from_test : (a b : ℤ) → le_z a b ≡ true → a ≤ℤ b
most_from_test a b h = grind (arith, ints)

over_from_test : (a b : ℤ) → le_z a b ≡ false → b <ℤ a
over_from_test a b h = grind (arith, ints)

pub word_back : (z : ℤ) → unsigned_abs z ≤ 16777216 → to_z w64 (of_z w64 z) ≡ z
word_back z s = back w64 z 16777216 s (omega arith)

module _ (z : ℤ) (s : unsigned_abs z ≤ 16777216) where
  pub positive_from_test : lt_z (pos 0) (to_z w64 (of_z w64 z)) ≡ true → pos 0 <ℤ z
  positive_from_test t = below_from_test (pos 0) z (ap (lt_z (pos 0)) (sym (word_back z s)) ∙ t)

  pub not_positive_from_test : lt_z (pos 0) (to_z w64 (of_z w64 z)) ≡ false → z ≤ℤ pos 0
  not_positive_from_test t = least_from_test (pos 0) z (ap (lt_z (pos 0)) (sym (word_back z s)) ∙ t)

  pub negative_from_test : lt_z (to_z w64 (of_z w64 z)) (pos 0) ≡ true → z <ℤ pos 0
  negative_from_test t = below_from_test z (pos 0) (ap (λ y. lt_z y (pos 0)) (sym (word_back z s)) ∙ t)

  pub not_negative_from_test : lt_z (to_z w64 (of_z w64 z)) (pos 0) ≡ false → pos 0 ≤ℤ z
  not_negative_from_test t = least_from_test z (pos 0) (ap (λ y. lt_z y (pos 0)) (sym (word_back z s)) ∙ t)

  pub most_zero_from_test : le_z (to_z w64 (of_z w64 z)) (pos 0) ≡ true → z ≤ℤ pos 0
  most_zero_from_test t = most_from_test z (pos 0) (ap (λ y. le_z y (pos 0)) (sym (word_back z s)) ∙ t)

  pub over_zero_from_test : le_z (to_z w64 (of_z w64 z)) (pos 0) ≡ false → pos 0 <ℤ z
  over_zero_from_test t = over_from_test z (pos 0) (ap (λ y. le_z y (pos 0)) (sym (word_back z s)) ∙ t)

pub zero_between : (z : ℤ) → z ≤ℤ pos 0 → pos 0 ≤ℤ z → z ≡ pos 0
zero_between z h k = omega (arith, ints)

abbrev pub vars : Flat → Flat → Flat → List ℤ
vars a b c = a.x ∷ a.y ∷ b.x ∷ b.y ∷ c.x ∷ c.y ∷ []

abbrev pub bounds : List ℕ
bounds = 1023 ∷ 1023 ∷ 1023 ∷ 1023 ∷ 1023 ∷ 1023 ∷ []

pub bounded : (a b c : Flat) → IsSmallFlat a → IsSmallFlat b → IsSmallFlat c → AreBounded (vars a b c) bounds
bounded a b c h k l = (h.small.0, (h.small.1.0, (k.small.0, (k.small.1.0, (l.small.0, (l.small.1.0, tt))))))

abbrev pub leftE : Expression
leftE = times (minus (var 2) (var 0)) (minus (var 5) (var 1))

abbrev pub rightE : Expression
rightE = times (minus (var 3) (var 1)) (minus (var 4) (var 0))

abbrev pub areaE : Expression
areaE = minus leftE rightE
