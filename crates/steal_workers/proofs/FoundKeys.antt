-- What a worker found, key by key, and what stays the same while it is settled.
use Rattle.std.proofs.Common.{◌≡◌, true, ◌∙◌, sym, subst, ℕ, List, [], ◌∷◌, ◌++◌}
use Rattle.std.specs.Prelude.{All}
use Rattle.std.proofs.lemmas.List.Elements.{All-head, All-rest, All-push}
use Rattle.ntfe_model.specs.Shapes.{Shape}
use Rattle.steal_workers.specs.Probing.{Probes, IsVerdictOn}
use Rattle.steal_workers.specs.Shared.{Shared, IsSameListing}
use Rattle.steal_workers.specs.Tallies.{Counts, IsSameTally, IsSameShare}
use Rattle.steal_workers.specs.Workers.{AreFound}
use Rattle.steal_workers.specs.declared.found_keys.FoundKey.{FoundKey}

module _ (g : Shape) (width : ℕ) (x : FoundKey) (xs ys : List FoundKey) (e : ys ≡ x ∷ xs) (h : AreFound g width ys) where
  abbrev IsFound : FoundKey → Type 0
  IsFound f = IsVerdictOn g width f.key f.verdict

  pub first_found : IsVerdictOn g width x.key x.verdict
  first_found = All-head IsFound x xs (subst (All IsFound) e h)

  pub rest_found : AreFound g width xs
  rest_found = All-rest IsFound x xs ys e h

pub more_found : (g : Shape) (width : ℕ) (f : FoundKey) (fs gs : List FoundKey) → gs ≡ fs ++ f ∷ [] → AreFound g width fs → IsVerdictOn g width f.key f.verdict → AreFound g width gs
more_found g width f fs gs e h v = subst (AreFound g width) (sym e) (All-push (λ x. IsVerdictOn g width x.key x.verdict) fs f h v)

pub verdict_at : (p q : Probes) (g : Shape) (f : FoundKey) → p ≡ q → q.geometry ≡ g → IsVerdictOn p.geometry p.width f.key f.verdict → IsVerdictOn g q.width f.key f.verdict
verdict_at p q g f e own v =
    let w : IsVerdictOn q.geometry q.width f.key f.verdict = subst (λ (x : Probes). IsVerdictOn x.geometry x.width f.key f.verdict) e v in
    subst (λ (x : Shape). IsVerdictOn x q.width f.key f.verdict) own w

pub found_at : (g h : Shape) (m n : ℕ) (fs : List FoundKey) → g ≡ h → m ≡ n → AreFound g m fs → AreFound h n fs
found_at g h m n fs e f a = subst (λ (x : Shape × ℕ). AreFound x.0 x.1 fs) (λ i. (e i, f i)) a

pub same_listing_then : (s t u : Shared) → IsSameListing s t → IsSameListing t u → IsSameListing s u
same_listing_then s t u p q = record { geometry = q.geometry ∙ p.geometry; width = q.width ∙ p.width; start = q.start ∙ p.start }

pub same_tally_then : (s t u : Counts) → IsSameTally s t → IsSameTally t u → IsSameTally s u
same_tally_then s t u p q = record { worker = q.worker ∙ p.worker; alone = q.alone ∙ p.alone; parts = q.parts ∙ p.parts }

pub same_share : {s t : Counts} → IsSameTally s t → IsSameShare s t
same_share p = record { worker = p.worker; parts = p.parts }

pub left_share : {s t : Counts} → IsSameTally s t → IsSameShare s (record t { alone = true })
left_share p = record { worker = p.worker; parts = p.parts }
