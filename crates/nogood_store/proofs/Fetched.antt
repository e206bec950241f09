-- What is kept of the parts that were fetched so far.
use Rattle.std.proofs.Common.{◌≡◌, ℕ, ◌+◌, ◌<◌, ◌≤◌, ◌⊎◌, inl, inr, Bool, true, false, true≢false, List, length, take, get_or, Option, refl, sym, subst}
use Rattle.std.specs.Prelude.{All, MatchBool, IsTrue, ◌↔◌}
use Rattle.std.proofs.lemmas.List.{take_all}
use Rattle.std.proofs.lemmas.List.Elements.{All-more, All-weaker}
use Rattle.ntfe_model.specs.Shapes.{Shape}
use Rattle.ntfe_model.specs.Books.{KeepsAll}
use Rattle.ntfe_model.specs.Certificates.{IsCertificate, no_part}
use Rattle.ntfe_model.specs.Keys.{item_limit}
use Rattle.ntfe_model.specs.declared.triangulation.Triangulation.{Triangulation}
use Rattle.ntfe_model.specs.declared.nogood.Part.{Part}
use Rattle.ntfe_model.specs.declared.nogood.Nogood.{Nogood}
use Rattle.farkas_check.specs.Parts.{KeepsPart, KeepsParts, HasItemOf}
use Rattle.nogood_store.specs.Receipts.{MayPassOver}
use Rattle.nogood_store.specs.Parts.{IsFetched, HasUnfetched}

abbrev pub Keeps : Type 0
Keeps = ℕ → ℕ → Option Triangulation

part_stays : (before after : Keeps) (g : Shape) → KeepsAll before after → (p : Part) → KeepsPart before g p → KeepsPart after g p
part_stays before after g h p k = (k.0, k.1, (k.2.0, h p.face p.item k.2.0 k.2.1))

-- one more part is kept
pub part_more : (before after : Keeps) (g : Shape) (ps : List Part) (i : ℕ) → KeepsAll before after → i < length ps → All (KeepsPart before g) (take i ps) → KeepsPart after g (get_or ps i no_part) → All (KeepsPart after g) (take (i + 1) ps)
part_more before after g ps i h l old new =
    All-more (KeepsPart after g) ps i no_part l (All-weaker (KeepsPart before g) (KeepsPart after g) (part_stays before after g h) (take i ps) old) new

pub parts_all : (keeps : Keeps) (g : Shape) (ps : List Part) (i : ℕ) → length ps ≤ i → All (KeepsPart keeps g) (take i ps) → All (KeepsPart keeps g) ps
parts_all keeps g ps i l h = subst (All (KeepsPart keeps g)) (take_all i ps l) h

pub unfetched : (keeps : Keeps) (g : Shape) (ps : List Part) (i : ℕ) (p : Part) → i < length ps → p ≡ get_or ps i p → (¬ (HasItemOf g p)) ⊎ (item_limit g < p.item) → HasUnfetched g ps
unfetched keeps g ps i p l e h = (p, (i, l, sym e), h)

-- a certificate has all its items
pub passes_over : (g : Shape) (n : Nogood) → HasUnfetched g n.parts → MayPassOver g n
passes_over g n h = by h.2
  where
    by : (¬ (HasItemOf g h.0)) ⊎ (item_limit g < h.0.item) → MayPassOver g n
    by (inl none) = inl (λ cert. none (subst (HasItemOf g) h.1.2 (cert.items h.1.0 h.0 h.1.1)))
    by (inr far) = inr (h.0, h.1, far)

-- what was found of one part
pub when_found : (keeps : Keeps) (g : Shape) (p : Part) (b : Bool) → IsFetched keeps g p b → b ≡ true → KeepsPart keeps g p
when_found keeps g p b h e = subst (IsFetched keeps g p) e h

pub when_missing : (keeps : Keeps) (g : Shape) (p : Part) (b : Bool) → IsFetched keeps g p b → b ≡ false → (¬ (HasItemOf g p)) ⊎ (item_limit g < p.item)
when_missing keeps g p b h e = subst (IsFetched keeps g p) e h

-- a nogood whose parts are kept is checked
pub checked : (keeps : Keeps) (g : Shape) (n : Nogood) (all is : Bool) (ps : List Part) → ps ≡ n.parts → MatchBool all (All (KeepsPart keeps g) ps) (HasUnfetched g ps) → all ≡ true → (IsTrue is ↔ (KeepsParts keeps g n × IsCertificate g n))
    → MatchBool is (IsCertificate g n) (MayPassOver g n)
checked keeps g n all is ps e h t verdict = by is verdict
  where
    kept : KeepsParts keeps g n
    kept = subst (All (KeepsPart keeps g)) e (subst (λ (b : Bool). MatchBool b (All (KeepsPart keeps g) ps) (HasUnfetched g ps)) t h)

    by : (is : Bool) → (IsTrue is ↔ (KeepsParts keeps g n × IsCertificate g n)) → MatchBool is (IsCertificate g n) (MayPassOver g n)
    by true v = (v.0 refl).1
    by false v = inl (λ cert. true≢false (sym (v.1 (kept, cert))))

pub missing : (keeps : Keeps) (g : Shape) (n : Nogood) (all : Bool) (ps : List Part) → ps ≡ n.parts → MatchBool all (All (KeepsPart keeps g) ps) (HasUnfetched g ps) → all ≡ false → MayPassOver g n
missing keeps g n all ps e h t = passes_over g n (subst (HasUnfetched g) e (subst (λ (b : Bool). MatchBool b (All (KeepsPart keeps g) ps) (HasUnfetched g ps)) t h))
