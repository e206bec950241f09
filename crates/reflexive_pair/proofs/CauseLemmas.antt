-- Each cause refutes that a pair is reflexive, and a pair with no cause is reflexive.
use Rattle.std.proofs.Common.{◌≡◌, ◌∙◌, ℕ, ◌-◌, ◌↔◌, inl, inr, ⊎_elim, refl, sym, ap, arith, true, false, negsuc, ◌≤ℤ◌, ◌<ℤ◌, ℤ, List, length, Result, Ok, Err, IsOk, IfErr, MatchResult}
use Rattle.std.specs.Prelude.{IsErrOf}
use Rattle.std.proofs.lemmas.Bool.{cases_order}
use Rattle.ntfe_model.specs.Lists.{IsBefore4, IsLeast, IsLeast2, IsLeast4}
use Rattle.std.proofs.lemmas.Int.{ints}
use Rattle.std.proofs.lemmas.List.Elements.{Contains-get_or}
use Rattle.ntfe_nums.specs.Vectors.{Vector, origin, dot}
use Rattle.ntfe_model.specs.Pairs.{VertexLists, entry}
use Rattle.ntfe_model.specs.Reflexive.{AreRising, HasNoRepeat, IsCovered, IsRepeated, HasLowProduct, IsTightOnNoFour, IsOtherFacet, IsReflexive}
use Rattle.reflexive_pair.specs.Causes.{HasFault}
use Rattle.reflexive_pair.specs.RuledOut.{HasNoLowProduct, AreTightOnFour}
use Rattle.reflexive_pair.specs.declared.fault.PairFault.{PairFault}
use Rattle.reflexive_pair.specs.declared.fault.PairFault.TheVariants.{Repeated, Below, NotFacet, NotVertex, OtherFacet}

-- ---- each cause

no_repeat : (vs : List Vector) (i j : ℕ) → IsRepeated vs i j → ¬ (HasNoRepeat vs)
no_repeat vs i j r h = let o = r.ordered in h (i - 1) (j - 1) origin (omega arith) (omega arith) r.same

pub not_low : (z : ℤ) → negsuc 0 ≤ℤ z → ¬ (z <ℤ negsuc 0)
not_low z h k = omega (arith, ints)

no_low : (p : VertexLists) (i j : ℕ) → HasLowProduct p i j → ¬ (HasNoLowProduct p)
no_low p i j r h =
    let v = r.vertex in
    let f = r.facet in
    not_low _ (h (entry p.dual j) (entry p.vertices i) (Contains-get_or p.dual (j - 1) origin (omega arith)) (Contains-get_or p.vertices (i - 1) origin (omega arith))) r.under

no_tight_on_no_four : (ms vs : List Vector) (i : ℕ) → IsTightOnNoFour ms vs i → ¬ (AreTightOnFour ms vs)
no_tight_on_no_four ms vs i r h = let n = r.number in r.loose (h (entry ms i) (Contains-get_or ms (i - 1) origin (omega arith)))

no_other : (p : VertexLists) (i j k l : ℕ) → IsOtherFacet p i j k l → ¬ ((a b c d : ℕ) → AreRising a b c d (length p.vertices) → IsCovered p a b c d)
no_other p i j k l r h =
    let o = r.ordered in
    r.missing (h (i - 1) (j - 1) (k - 1) (l - 1) (omega arith, omega arith, omega arith, omega arith) r.independent r.one_side)

pub fault_refutes : (p : VertexLists) (f : PairFault) → HasFault p f → ¬ (IsReflexive p)
fault_refutes p (Repeated false i j) h r = no_repeat p.vertices i j h.holds r.distinct_vertices
fault_refutes p (Repeated true i j) h r = no_repeat p.dual i j h.1.holds r.distinct_dual
fault_refutes p (Below vertex facet product) h r = no_low p vertex facet h.1.holds r.within
fault_refutes p (NotFacet facet) h r = no_tight_on_no_four p.dual p.vertices facet h.2.holds r.facets
fault_refutes p (NotVertex vertex) h r = no_tight_on_no_four p.vertices p.dual vertex h.3.holds r.corners
fault_refutes p (OtherFacet i j k l) h r = no_other p i j k l h.4.holds r.closed

-- ---- a cause is determined

least_fixed : (P : ℕ → Type 0) (i a : ℕ) → IsLeast P i → IsLeast P a → i ≡ a
least_fixed P i a h g =
    ⊎_elim (λ e. e) (⊎_elim (λ lt. absurd (g.least i lt h.holds)) (λ lt. absurd (h.least a lt g.holds))) (cases_order i a)

least2_fixed : (P : ℕ → ℕ → Type 0) (i j a b : ℕ) → IsLeast2 P i j → IsLeast2 P a b → (i ≡ a) × (j ≡ b)
least2_fixed P i j a b h g =
    ⊎_elim
    (λ e. ⊎_elim {C = (i ≡ a) × (j ≡ b)} (λ f. (e, f))
    (⊎_elim (λ lt. absurd (g.least i j (inr (e, lt)) h.holds)) (λ lt. absurd (h.least a b (inr (sym e, lt)) g.holds))) (cases_order j b))
    (⊎_elim (λ lt. absurd (g.least i j (inl lt) h.holds)) (λ lt. absurd (h.least a b (inl lt) g.holds))) (cases_order i a)

least4_fixed : (P : ℕ → ℕ → ℕ → ℕ → Type 0) (i j k l a b c d : ℕ) → IsLeast4 P i j k l → IsLeast4 P a b c d → (i ≡ a) × (j ≡ b) × (k ≡ c) × (l ≡ d)
least4_fixed P i j k l a b c d h g =
    let before : IsBefore4 i j k l a b c d → ⊥ = λ x. g.least i j k l x h.holds in
    let behind : IsBefore4 a b c d i j k l → ⊥ = λ x. h.least a b c d x g.holds in
    ⊎_elim
    (λ e. ⊎_elim {C = (i ≡ a) × (j ≡ b) × (k ≡ c) × (l ≡ d)}
    (λ f. ⊎_elim {C = (i ≡ a) × (j ≡ b) × (k ≡ c) × (l ≡ d)}
    (λ u. ⊎_elim {C = (i ≡ a) × (j ≡ b) × (k ≡ c) × (l ≡ d)} (λ v. (e, f, u, v))
    (⊎_elim (λ lt. absurd (before (inr (e, f, inr (u, lt))))) (λ lt. absurd (behind (inr (sym e, sym f, inr (sym u, lt)))))) (cases_order l d))
    (⊎_elim (λ lt. absurd (before (inr (e, f, inl lt)))) (λ lt. absurd (behind (inr (sym e, sym f, inl lt))))) (cases_order k c))
    (⊎_elim (λ lt. absurd (before (inl (inr (e, lt))))) (λ lt. absurd (behind (inl (inr (sym e, lt)))))) (cases_order j b))
    (⊎_elim (λ lt. absurd (before (inl (inl lt)))) (λ lt. absurd (behind (inl (inl lt))))) (cases_order i a)

fault_fixed : (p : VertexLists) (f g : PairFault) → HasFault p f → HasFault p g → f ≡ g
fault_fixed p (Repeated false ai aj) (Repeated false bi bj) h g = (let e = least2_fixed (IsRepeated p.vertices) ai aj bi bj h g in λ t. Repeated false (e.0 t) (e.1 t))
fault_fixed p (Repeated false ai aj) (Repeated true bi bj) h g = absurd (no_repeat p.vertices ai aj h.holds g.0)
fault_fixed p (Repeated false ai aj) (Below bv bf bz) h g = absurd (no_repeat p.vertices ai aj h.holds g.0.0)
fault_fixed p (Repeated false ai aj) (NotFacet bf) h g = absurd (no_repeat p.vertices ai aj h.holds g.0.0)
fault_fixed p (Repeated false ai aj) (NotVertex bv) h g = absurd (no_repeat p.vertices ai aj h.holds g.0.0)
fault_fixed p (Repeated false ai aj) (OtherFacet bi bj bk bl) h g = absurd (no_repeat p.vertices ai aj h.holds g.0.0)
fault_fixed p (Repeated true ai aj) (Repeated false bi bj) h g = absurd (no_repeat p.vertices bi bj g.holds h.0)
fault_fixed p (Repeated true ai aj) (Repeated true bi bj) h g = (let e = least2_fixed (IsRepeated p.dual) ai aj bi bj h.1 g.1 in λ t. Repeated true (e.0 t) (e.1 t))
fault_fixed p (Repeated true ai aj) (Below bv bf bz) h g = absurd (no_repeat p.dual ai aj h.1.holds g.0.1)
fault_fixed p (Repeated true ai aj) (NotFacet bf) h g = absurd (no_repeat p.dual ai aj h.1.holds g.0.1)
fault_fixed p (Repeated true ai aj) (NotVertex bv) h g = absurd (no_repeat p.dual ai aj h.1.holds g.0.1)
fault_fixed p (Repeated true ai aj) (OtherFacet bi bj bk bl) h g = absurd (no_repeat p.dual ai aj h.1.holds g.0.1)
fault_fixed p (Below av af az) (Repeated false bi bj) h g = absurd (no_repeat p.vertices bi bj g.holds h.0.0)
fault_fixed p (Below av af az) (Repeated true bi bj) h g = absurd (no_repeat p.dual bi bj g.1.holds h.0.1)
fault_fixed p (Below av af az) (Below bv bf bz) h g = (let e = least2_fixed (HasLowProduct p) av af bv bf h.1 g.1 in let s = h.2 ∙ (λ t. dot (entry p.dual (e.1 t)) (entry p.vertices (e.0 t))) ∙ sym g.2 in λ t. Below (e.0 t) (e.1 t) (s t))
fault_fixed p (Below av af az) (NotFacet bf) h g = absurd (no_low p av af h.1.holds g.1)
fault_fixed p (Below av af az) (NotVertex bv) h g = absurd (no_low p av af h.1.holds g.1)
fault_fixed p (Below av af az) (OtherFacet bi bj bk bl) h g = absurd (no_low p av af h.1.holds g.1)
fault_fixed p (NotFacet af) (Repeated false bi bj) h g = absurd (no_repeat p.vertices bi bj g.holds h.0.0)
fault_fixed p (NotFacet af) (Repeated true bi bj) h g = absurd (no_repeat p.dual bi bj g.1.holds h.0.1)
fault_fixed p (NotFacet af) (Below bv bf bz) h g = absurd (no_low p bv bf g.1.holds h.1)
fault_fixed p (NotFacet af) (NotFacet bf) h g = ap NotFacet (least_fixed (IsTightOnNoFour p.dual p.vertices) af bf h.2 g.2)
fault_fixed p (NotFacet af) (NotVertex bv) h g = absurd (no_tight_on_no_four p.dual p.vertices af h.2.holds g.2)
fault_fixed p (NotFacet af) (OtherFacet bi bj bk bl) h g = absurd (no_tight_on_no_four p.dual p.vertices af h.2.holds g.2)
fault_fixed p (NotVertex av) (Repeated false bi bj) h g = absurd (no_repeat p.vertices bi bj g.holds h.0.0)
fault_fixed p (NotVertex av) (Repeated true bi bj) h g = absurd (no_repeat p.dual bi bj g.1.holds h.0.1)
fault_fixed p (NotVertex av) (Below bv bf bz) h g = absurd (no_low p bv bf g.1.holds h.1)
fault_fixed p (NotVertex av) (NotFacet bf) h g = absurd (no_tight_on_no_four p.dual p.vertices bf g.2.holds h.2)
fault_fixed p (NotVertex av) (NotVertex bv) h g = ap NotVertex (least_fixed (IsTightOnNoFour p.vertices p.dual) av bv h.3 g.3)
fault_fixed p (NotVertex av) (OtherFacet bi bj bk bl) h g = absurd (no_tight_on_no_four p.vertices p.dual av h.3.holds g.3)
fault_fixed p (OtherFacet ai aj ak al) (Repeated false bi bj) h g = absurd (no_repeat p.vertices bi bj g.holds h.0.0)
fault_fixed p (OtherFacet ai aj ak al) (Repeated true bi bj) h g = absurd (no_repeat p.dual bi bj g.1.holds h.0.1)
fault_fixed p (OtherFacet ai aj ak al) (Below bv bf bz) h g = absurd (no_low p bv bf g.1.holds h.1)
fault_fixed p (OtherFacet ai aj ak al) (NotFacet bf) h g = absurd (no_tight_on_no_four p.dual p.vertices bf g.2.holds h.2)
fault_fixed p (OtherFacet ai aj ak al) (NotVertex bv) h g = absurd (no_tight_on_no_four p.vertices p.dual bv g.3.holds h.3)
fault_fixed p (OtherFacet ai aj ak al) (OtherFacet bi bj bk bl) h g = (let e = least4_fixed (IsOtherFacet p) ai aj ak al bi bj bk bl h.4 g.4 in λ t. OtherFacet (e.0 t) (e.1 t) (e.2 t) (e.3 t))

-- ---- what the answer for the lists says of the pair

module _ {T : Type 0} (p : VertexLists) where
  pub ok_exactly : (r : Result T PairFault) → MatchResult r (λ u. IsReflexive p) (HasFault p) → IsOk r ↔ IsReflexive p
  ok_exactly (Ok u) h = ((λ o. h), (λ x. refl))
  ok_exactly (Err f) h = ((λ o. cc), (λ x. absurd (fault_refutes p f h x)))

  pub fault_of : (r : Result T PairFault) → MatchResult r (λ u. IsReflexive p) (HasFault p) → IfErr r (HasFault p)
  fault_of (Ok u) h = tt
  fault_of (Err f) h = h

  pub answers_each : (r : Result T PairFault) → MatchResult r (λ u. IsReflexive p) (HasFault p) → (f : PairFault) → HasFault p f → IsErrOf r f
  answers_each (Ok u) h f g = absurd (fault_refutes p f g h)
  answers_each (Err e) h f g = ap Err (fault_fixed p e f h g)
