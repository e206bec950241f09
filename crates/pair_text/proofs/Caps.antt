-- What a number that was cut tells of the number itself.
use Rattle.std.proofs.Common.{◌≡◌, ◌<◌, ◌≤◌, min, ℤ, pos, negsuc, [], ◌∷◌, map, Option, Some, None, option_map, refl, ap, inl, inr, arith, lit<, w64, to_z, of_z, FitsSigned}
use Rattle.std.specs.Prelude.{unsigned_abs, Any}
use Rattle.std.proofs.lemmas.Int.{ints, to_z-of_z, fits_signed_from_abs}
use Rattle.std.proofs.lemmas.Bool.{cases_lt}
use Rattle.ntfe_nums.specs.Vectors.{Vector, numbers}
use Rattle.ntfe_model.specs.Pairs.{IsSmall}
use Rattle.pair_text.specs.Caps.{capped, capped_vector}
use Rattle.ntfe_model.proofs.SmallVectors.{IsSmallNumber}
use Rattle.ntfe_nums.proofs.VectorLemmas.{same4}

-- a small number was not cut
pub capped-exact : (z : ℤ) → IsSmallNumber (capped z) → z ≡ capped z
capped-exact (pos n) h = ap pos (omega (arith, ints, h.1))
capped-exact (negsuc n) h = ap negsuc (omega (arith, ints, h.0))

pub capped-small : (z : ℤ) → unsigned_abs z ≤ 1023 → IsSmallNumber (capped z)
capped-small (pos n) h = (omega (arith, ints), omega (arith, ints))
capped-small (negsuc n) h = (omega (arith, ints), omega (arith, ints))

pub small-size : (z : ℤ) → IsSmallNumber (capped z) → unsigned_abs z ≤ 1023
small-size (pos n) h = omega (arith, ints, h.1)
small-size (negsuc n) h = omega (arith, ints, h.0)

pub capped-large : (z : ℤ) → ¬ (IsSmallNumber (capped z)) → 1023 < unsigned_abs z
capped-large z h = elim (cases_lt 1023 (unsigned_abs z)) [ inl l ↦ l | inr l ↦ absurd (h (capped-small z l)) ]

capped-fits : (z : ℤ) → FitsSigned w64 (capped z)
capped-fits (pos n) = fits_signed_from_abs w64 (pos (min n 1024)) (omega arith)
capped-fits (negsuc n) = fits_signed_from_abs w64 (negsuc (min n 1023)) (omega arith)

-- a number that was cut fits
pub capped-back : (z a : ℤ) → a ≡ capped z → to_z w64 (of_z w64 a) ≡ a
capped-back z a e = let f : FitsSigned w64 a = rw e (capped-fits z) in to_z-of_z w64 a f

pub number-of : (o : Option ℤ) (a : ℤ) → Some a ≡ option_map capped o → (z : ℤ) × (o ≡ Some z) × (a ≡ capped z)
number-of None a e = absurd cc
number-of (Some z) a e = (z, refl, cc)

pub none-of : (o : Option ℤ) → None ≡ option_map capped o → o ≡ None
none-of None e = refl
none-of (Some z) e = absurd cc

pub vector-exact : (v : Vector) → IsSmall (capped_vector v) → v ≡ capped_vector v
vector-exact v s =
    same4 v (capped_vector v) (capped-exact v.x1 (s.low1, s.high1)) (capped-exact v.x2 (s.low2, s.high2)) (capped-exact v.x3 (s.low3, s.high3))
    (capped-exact v.x4 (s.low4, s.high4))

-- where not all are small, some size is too large
pub vector-large : (v : Vector) → ¬ (IsSmall (capped_vector v)) → Any (λ z. 1023 < unsigned_abs z) (numbers v)
vector-large v h =
    elim (cases_lt 1023 (unsigned_abs v.x1)) [
      | inl l ↦ (0, v.x1, lit< tt, refl, l)
      | inr s1 ↦
          elim (cases_lt 1023 (unsigned_abs v.x2)) [
            | inl l ↦ (1, v.x2, lit< tt, refl, l)
            | inr s2 ↦
                elim (cases_lt 1023 (unsigned_abs v.x3)) [
                  | inl l ↦ (2, v.x3, lit< tt, refl, l)
                  | inr s3 ↦
                      elim (cases_lt 1023 (unsigned_abs v.x4)) [
                        | inl l ↦ (3, v.x4, lit< tt, refl, l)
                        | inr s4 ↦
                            let p1 = capped-small v.x1 s1 in
                            let p2 = capped-small v.x2 s2 in
                            let p3 = capped-small v.x3 s3 in
                            let p4 = capped-small v.x4 s4 in
                            absurd (h (record { low1 = p1.0; high1 = p1.1; low2 = p2.0; high2 = p2.1; low3 = p3.0; high3 = p3.1; low4 = p4.0; high4 = p4.1 }))
                      ]
                ]
          ]
    ]

-- what the numbers of four fields are
pub numbers-of : (a b c d : Option ℤ) (v : Vector) → a ≡ Some v.x1 → b ≡ Some v.x2 → c ≡ Some v.x3 → d ≡ Some v.x4 → a ∷ b ∷ c ∷ d ∷ [] ≡ map Some (numbers v)
numbers-of a b c d v e f g h = cc
