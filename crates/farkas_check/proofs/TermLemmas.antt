-- Terms of a nogood: what a term is by its part, and that the factors of its fold are small.
use Rattle.std.proofs.Common.{◌≡◌, ℕ, ◌<◌, ◌≤◌, ◌==◌, Bool, true, false, refl, sym, ap, ◌∙◌, subst, arith, pos, ◌≤ℤ◌, List, length, get_or}
use Rattle.std.specs.Prelude.{All, AllPairs, IsTrue, ◌↔◌}
use Rattle.std.proofs.lemmas.Bool.Decides.{nat_tests}
use Rattle.std.proofs.lemmas.List.Elements.{All-weaker}
use Rattle.ntfe_model.specs.Shapes.{Shape, IsShape}
use Rattle.ntfe_model.specs.Certificates.{IsTermOf, IsCertificate, total_coefficient, part_at, no_part}
use Rattle.ntfe_model.specs.declared.nogood.Part.{Part}
use Rattle.ntfe_model.specs.declared.nogood.Term.{Term}
use Rattle.ntfe_model.specs.declared.nogood.Nogood.{Nogood}
use Rattle.ntfe_model.specs.Choices.{IsSmallFold}
use Rattle.farkas_check.specs.Parts.{HasItemOf, IsFoldOfPart}
use Rattle.farkas_check.proofs.PartFolds.{fold_factors}

-- the parts ps of the nogood, as they are read
module _ (g : Shape) (n : Nogood) (ps : List Part) (e : ps ≡ n.parts) (t : Term) where
  pub term_of_part : t.part < length ps → IsFoldOfPart g (get_or ps t.part no_part) t.fold → pos 1 ≤ℤ t.times → IsTermOf g n t
  term_of_part l k m =
      let P : List Part → Type 0 = λ qs. (t.part < length qs) × IsFoldOfPart g (get_or qs t.part no_part) t.fold in
      let h = subst P e (l, k) in
      record { part = h.0; item = h.1.0; is_item = h.1.1; fold = h.1.2; times = m }

  pub part_of_term : IsTermOf g n t → IsFoldOfPart g (get_or ps t.part no_part) t.fold
  part_of_term k = let P : List Part → Type 0 = λ qs. IsFoldOfPart g (get_or qs t.part no_part) t.fold in subst P (sym e) (k.item, k.is_item, k.fold)

pub terms_small : (g : Shape) → IsShape g → (n : Nogood) → All (HasItemOf g) n.parts → All (IsTermOf g n) n.terms → All (λ t. IsSmallFold t.fold) n.terms
terms_small g s n items terms = All-weaker (IsTermOf g n) (λ t. IsSmallFold t.fold) small n.terms terms
  where
    small : (t : Term) → IsTermOf g n t → IsSmallFold t.fold
    small t k = let p = part_at n t.part in let within = (items t.part no_part k.part).0 in fold_factors g s p.face p.item within k.item k.is_item t.fold k.fold

-- the lists ps and ts of the nogood, as they are read, and n points
module _ (g : Shape) (n : Nogood) (ps : List Part) (ts : List Term) (points : ℕ) (ep : ps ≡ n.parts) (et : ts ≡ n.terms) (en : points ≡ length g.points) where
  abbrev IsCancelling : Type 0
  IsCancelling = (k : ℕ) → 1 ≤ k → k ≤ points → total_coefficient ts k ≡ pos 0

  pub certificate_of : AllPairs (λ p q. p.face < q.face) ps → All (HasItemOf g) ps → All (IsTermOf g n) n.terms → (length ts == 0) ≡ false → length ts ≤ 4_294_967_295 → IsCancelling → IsCertificate g n
  certificate_of rising items terms some few cancel =
      let P : List Part → Type 0 = λ qs. AllPairs (λ p q. p.face < q.face) qs × All (HasItemOf g) qs in
      let h = subst P ep (rising, items) in
      let l = ap length et in
      let positive : 0 < length ts = grind (arith, nat_tests, some) in
      record {
        rising = h.0;
        items = h.1;
        terms = terms;
        some = omega (arith, l, positive);
        few = omega (arith, l, few);
        cancel = λ k r. ap (λ us. total_coefficient us k) (sym et) ∙ cancel k r.0 (let r1 = r.1 in omega (arith, r1, en));
      }

  pub cancels : IsCertificate g n → IsCancelling
  cancels c k l m = ap (λ us. total_coefficient us k) et ∙ c.cancel k (l, omega (arith, m, en))

-- an answer that is right in both cases
pub answers : {P : Type 0} (r : Bool) → (r ≡ true → P) → (r ≡ false → P → ⊥) → IsTrue r ↔ P
answers true yes_so no_so = (λ e. yes_so refl, λ p. refl)
answers false yes_so no_so = (λ e. cc, λ p. absurd (no_so refl p))
