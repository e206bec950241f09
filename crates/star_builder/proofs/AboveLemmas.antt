-- One combination of independent points decides whether a point is above them.
use Rattle.std.proofs.Common.{◌≡◌, ◌≢◌, ◌∙◌, ℕ, ◌^◌, ◌≤◌, ◌⊎◌, inr, ⊎_elim, false, sym, ap, subst, arith, ℤ, pos, ◌<ℤ◌, ◌≤ℤ◌, ◌+ℤ◌, ◌-ℤ◌, ◌*ℤ◌, List, map, unsigned_abs, to_z, of_z}
use lib.Signed.{lt_z}
use Rattle.std.proofs.lemmas.Int.{ints}
use Rattle.std.specs.Int.{w128}
use Rattle.ntfe_nums.proofs.Machine.{back}
use Rattle.ntfe_nums.proofs.Comparisons.{least_from_test}
use Rattle.ntfe_model.specs.Choices.{height}
use Rattle.ntfe_model.specs.Stars.{IsCombination, IsLexAbove, IsFirstPositive, push_coefficient}
use Rattle.ntfe_model.specs.declared.point.Point.{Point}
use Rattle.star_builder.specs.declared.four.Four.{Four}
use Rattle.star_builder.specs.declared.frame.Combination.{Combination}
use Rattle.star_builder.specs.Fours.{AreIndependent}
use Rattle.star_builder.proofs.Combinations.{rises_of_above}

not_first : (z : ℤ) → z ≢ pos 0 → z ≤ℤ pos 0 → pos 0 <ℤ z → ⊥
not_first z ne h k = absurd (omega (arith, ints, h, k))

module _ (xs : List Point) (w : List ℤ) (order : List ℕ) (f : Four) (p : ℕ) (m : Combination)
    (mixed : IsCombination xs f.a f.b f.c f.d p m.size m.first m.second m.third m.fourth) where
  abbrev rise_of : ℤ
  rise_of = m.size *ℤ height w p -ℤ (m.first *ℤ height w f.a +ℤ m.second *ℤ height w f.b +ℤ m.third *ℤ height w f.c +ℤ m.fourth *ℤ height w f.d)

  abbrev coefficients : List ℤ
  coefficients = map (push_coefficient m.size (f.a, m.first) (f.b, m.second) (f.c, m.third) (f.d, m.fourth) p) order

  module _ (up : ℤ) (e : up ≡ rise_of) where
    pub tied_above : up ≡ pos 0 → IsFirstPositive coefficients → IsLexAbove xs w order f.a f.b f.c f.d p
    tied_above z h = record { l1 = m.first; l2 = m.second; l3 = m.third; l4 = m.fourth; size = m.size; combination = mixed; above = inr (sym e ∙ z, h) }

    module _ (independent : AreIndependent xs f) where
      decided : IsLexAbove xs w order f.a f.b f.c f.d p → (pos 0 <ℤ up) ⊎ ((up ≡ pos 0) × IsFirstPositive coefficients)
      decided a =
          let P : ℤ → Type 0 = λ z. (pos 0 <ℤ z) ⊎ ((z ≡ pos 0) × IsFirstPositive coefficients) in
          subst P (sym e) (rises_of_above xs w order f.a f.b f.c f.d p m.size m.first m.second m.third m.fourth independent mixed a)

      pub tied_not_above : up ≡ pos 0 → ¬ (IsFirstPositive coefficients) → ¬ (IsLexAbove xs w order f.a f.b f.c f.d p)
      tied_not_above z none a = ⊎_elim (λ h. over up z h) (λ h. none h.1) (decided a)
        where
          over : (y : ℤ) → y ≡ pos 0 → pos 0 <ℤ y → ⊥
          over y q h = absurd (omega (arith, ints, q, h))

      pub under_not_above : up ≢ pos 0 → up ≤ℤ pos 0 → ¬ (IsLexAbove xs w order f.a f.b f.c f.d p)
      under_not_above ne h a = ⊎_elim (λ k. not_first up ne h k) (λ k. ne k.0) (decided a)

-- ---- tests of a word with 0

module _ (z : ℤ) (s : unsigned_abs z ≤ 2 ^ 114) where
  whole : to_z w128 (of_z w128 z) ≡ z
  whole = back w128 z (2 ^ 114) s (omega arith)

  pub zero_from_bits : of_z w128 z ≡ 0 → z ≡ pos 0
  zero_from_bits e = sym whole ∙ ap (to_z w128) e

  pub most_zero_from_test : lt_z (pos 0) (to_z w128 (of_z w128 z)) ≡ false → z ≤ℤ pos 0
  most_zero_from_test t = least_from_test (pos 0) z (ap (lt_z (pos 0)) (sym whole) ∙ t)
