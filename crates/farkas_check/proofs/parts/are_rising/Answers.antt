use Rattle.std.proofs.Common.{ℕ, ◌≡◌, ◌+◌, ◌-◌, ◌<◌, ◌≤◌, ◌⊎◌, inl, inr, List, length, get_or, ap, arith}
use Rattle.std.proofs.lemmas.List.{get_or_default}
use Rattle.ntfe_model.specs.declared.nogood.Part.{Part}
use Rattle.farkas_check.proofs.parts.are_rising.Goals as goal

-- one more part, above the one before it
rises_on : (ps : List Part) (i : ℕ) (e : Part) → 1 ≤ i → i < length ps → ((j k : ℕ) (p : Part) → j < k → k < i → (get_or ps j p).face < (get_or ps k p).face)
    → (get_or ps (i - 1) e).face < (get_or ps i e).face → (j k : ℕ) (p : Part) → j < k → k < i + 1 → (get_or ps j p).face < (get_or ps k p).face
rises_on ps i e one inside before last j k p l m = by (let r : (k < i) ⊎ (k ≡ i) = grind arith in r)
  where
    at_last : (get_or ps (i - 1) p).face < (get_or ps i p).face
    at_last = let u = ap (λ (x : Part). x.face) (get_or_default ps (i - 1) e p (omega arith)) in let v = ap (λ (x : Part). x.face) (get_or_default ps i e p inside) in omega (arith, last, u, v)

    at_new : (j < i - 1) ⊎ (j ≡ i - 1) → k ≡ i → (get_or ps j p).face < (get_or ps k p).face
    at_new (inl n) q = let u = ap (λ m. (get_or ps m p).face) q in let b = before j (i - 1) p n (omega arith) in let t = at_last in omega (arith, b, t, u)
    at_new (inr n) q = let u = ap (λ m. (get_or ps m p).face) q in let v = ap (λ m. (get_or ps m p).face) n in let t = at_last in omega (arith, t, u, v)

    by : (k < i) ⊎ (k ≡ i) → (get_or ps j p).face < (get_or ps k p).face
    by (inl n) = before j k p l n
    by (inr q) = at_new (let r : (j < i - 1) ⊎ (j ≡ i - 1) = grind arith in r) q

pub loop-i-preserved : goal.loop-i-preserved
loop-i-preserved c = rises_on c.args.parts.now c.loop-i.i (record { face = 0; item = 0 }) c.loop-i.auto.i c.loop-i-test.true c.loop-i.invariant c.if-parts-i.false
