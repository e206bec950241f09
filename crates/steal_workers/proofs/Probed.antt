-- The verdict of a finding is true of the key.
use Rattle.std.proofs.Common.{◌≡◌, ◌<◌, ◌≤◌, ◌∙◌, sym, subst, ℕ, zero, suc, ℤ, arith, List, [], ◌∷◌, length, Some}
use Rattle.std.specs.Prelude.{slice_get, Result, Ok, Err, IfOk}
use Rattle.ntfe_model.specs.Shapes.{Shape}
use Rattle.ntfe_model.specs.Keys.{IsPruned}
use Rattle.ntfe_model.specs.declared.nogood.Nogood.{Nogood}
use Rattle.choice_board.specs.declared.verdict.Verdict.{Verdict}
use Rattle.choice_board.specs.declared.verdict.Verdict.TheVariants as verdict
use Rattle.node_probe.specs.Followed.{IsFoundTrue}
use Rattle.node_probe.specs.declared.finding.Finding.{Finding}
use Rattle.node_probe.specs.declared.finding.Finding.TheVariants.{End, Far, Blocked, Refuted, Wide, Class, Descend}
use Rattle.steal_workers.specs.Probing.{IsVerdictOn, IsVerdictOf, FindsWithin}

same_entry : (a b : Nogood) (o : List Nogood) (place : ℕ) → slice_get o place ≡ Some a → slice_get o place ≡ Some b → a ≡ b
same_entry a b o place p q = let e = sym p ∙ q in cc

-- an entry of the set that blocks the key prunes it
blocked_verdict : (g : Shape) (width : ℕ) (key : List ℕ) (set : List Nogood) (place : ℕ) (n : Nogood) → slice_get set place ≡ Some n → IsFoundTrue g width key set (Blocked place) → IsVerdictOn g width key (verdict.Pruned n)
blocked_verdict g width key set place n e h = (subst (IsPruned g key) (same_entry h.1.first.entry n set place h.1.first.is e) h.1.pruned, tt)

wide_verdict : (g : Shape) (width : ℕ) (key : List ℕ) (set : List Nogood) → 1 ≤ width → width ≤ 62 → (step : ℕ) (number : ℤ) → IsFoundTrue g width key set (Wide step number) → IsVerdictOn g width key (verdict.Wide step number)
wide_verdict g width key set low high step number h =
    ((record { faces = h.2.0; items = λ f l. h.0.0 f (let e = h.2.0 in omega (arith, e, l)) }, h.0.1, (width, low, high, h.2.1)), h.2.1)

-- the verdict of a finding is true of the key
pub true_verdict : (g : Shape) (width : ℕ) (key : List ℕ) (set : List Nogood) → 1 ≤ width → width ≤ 62 → (f : Finding) (v : Verdict) → IsFoundTrue g width key set f → IsVerdictOf set f v → IsVerdictOn g width key v
true_verdict g width key set low high End v h e = subst (IsVerdictOn g width key) (sym e) (h, tt)
true_verdict g width key set low high (Far face) v h e = subst (IsVerdictOn g width key) (sym e) (h.0, tt)
true_verdict g width key set low high (Blocked place) v h (n, is, e) = subst (IsVerdictOn g width key) (sym e) (blocked_verdict g width key set place n is h)
true_verdict g width key set low high (Refuted n) v h e = subst (IsVerdictOn g width key) (sym e) ((h.0.1, h.2.0, h.2.1), tt)
true_verdict g width key set low high (Wide step number) v h e = subst (IsVerdictOn g width key) (sym e) (wide_verdict g width key set low high step number h)
true_verdict g width key set low high (Class w) v h e = subst (IsVerdictOn g width key) (sym e) (h.2.1, tt)
true_verdict g width key set low high Descend v h e = subst (IsVerdictOn g width key) (sym e) (h.2.0, (h.0.0, h.2.1))

pub ok_then : {T E : Type 0} (P Q : T → Type 0) (r : Result T E) → ((v : T) → P v → Q v) → IfOk r P → IfOk r Q
ok_then P Q (Ok v) f h = f v h
ok_then P Q (Err e) f h = tt

-- a finding speaks of an entry of the set
pub finds_within : (g : Shape) (width : ℕ) (key : List ℕ) (set : List Nogood) (f : Finding) → IsFoundTrue g width key set f → FindsWithin set f
finds_within g width key set End h = tt
finds_within g width key set (Far face) h = tt
finds_within g width key set (Blocked place) h = within set place h.1.first.entry h.1.first.is
  where
    within : (ns : List Nogood) (k : ℕ) (n : Nogood) → slice_get ns k ≡ Some n → k < length ns
    within [] k n e = cc
    within (m ∷ ns) zero n e = omega arith
    within (m ∷ ns) (suc k) n e = let r = within ns k n e in omega (arith, r)
finds_within g width key set (Refuted n) h = tt
finds_within g width key set (Wide step number) h = tt
finds_within g width key set (Class w) h = tt
finds_within g width key set Descend h = tt
