-- The pairs of the demo are bounded, reflexive and small.
use Rattle.std.proofs.Common.{◌≡◌, ℕ, zero, suc, ◌≤◌, true, refl, arith}
use Rattle.ntfe_nums.specs.Vectors.{cofactors, det4}
use Rattle.ntfe_model.specs.Pairs.{IsBounded}
use Rattle.ntfe_model.specs.Reflexive.{IsReflexive}
use Rattle.polygon_demo.specs.Limits.{IsSmallPair}
use Rattle.polygon_demo.specs.Polygons.{demo_pair}
use Rattle.polygon_demo.proofs.ReflexiveTest.{is_reflexive, reflexive}
use Rattle.polygon_demo.proofs.BoundedTest.{bounded}
use Rattle.polygon_demo.proofs.UnitBoxes.{small_pair}

passes1 : is_reflexive (demo_pair 1) ≡ true
unfolding cofactors det4
passes1 = refl

passes2 : is_reflexive (demo_pair 2) ≡ true
unfolding cofactors det4
passes2 = refl

passes3 : is_reflexive (demo_pair 3) ≡ true
unfolding cofactors det4
passes3 = refl

passes4 : is_reflexive (demo_pair 4) ≡ true
unfolding cofactors det4
passes4 = refl

passes5 : is_reflexive (demo_pair 5) ≡ true
unfolding cofactors det4
passes5 = refl

-- what holds of each of the five
pub of_five : (P : ℕ → Type 0) → P 1 → P 2 → P 3 → P 4 → P 5 → (number : ℕ) → 1 ≤ number → number ≤ 5 → P number
of_five P a b c d e zero h l = absurd (omega arith)
of_five P a b c d e (suc zero) h l = a
of_five P a b c d e (suc (suc zero)) h l = b
of_five P a b c d e (suc (suc (suc zero))) h l = c
of_five P a b c d e (suc (suc (suc (suc zero)))) h l = d
of_five P a b c d e (suc (suc (suc (suc (suc zero))))) h l = e
of_five P a b c d e (suc (suc (suc (suc (suc (suc n)))))) h l = absurd (omega arith)

pub demo_reflexive : (number : ℕ) → 1 ≤ number → number ≤ 5 → IsReflexive (demo_pair number)
demo_reflexive =
    of_five (λ n. IsReflexive (demo_pair n))
    (reflexive (demo_pair 1) passes1) (reflexive (demo_pair 2) passes2) (reflexive (demo_pair 3) passes3)
    (reflexive (demo_pair 4) passes4) (reflexive (demo_pair 5) passes5)

pub demo_bounded : (number : ℕ) → 1 ≤ number → number ≤ 5 → IsBounded (demo_pair number)
demo_bounded =
    of_five (λ n. IsBounded (demo_pair n))
    (bounded (demo_pair 1) refl) (bounded (demo_pair 2) refl) (bounded (demo_pair 3) refl) (bounded (demo_pair 4) refl) (bounded (demo_pair 5) refl)

pub demo_small : (number : ℕ) → 1 ≤ number → number ≤ 5 → IsSmallPair (demo_pair number)
demo_small =
    of_five (λ n. IsSmallPair (demo_pair n)) (small_pair (demo_pair 1) refl) (small_pair (demo_pair 2) refl) (small_pair (demo_pair 3) refl)
    (small_pair (demo_pair 4) refl) (small_pair (demo_pair 5) refl)
