-- The conditions that are asked of the triples one after the other are those of a fine set.
use Rattle.std.proofs.Common.{◌≡◌, ℕ, inl, inr, ⊎_elim, refl, subst, List}
use Rattle.std.specs.Prelude.{All}
use Rattle.std.proofs.lemmas.List.Elements.{All-contains}
use Rattle.ntfe_model.specs.Charts.{Patch, IsStep, AreSteps}
use Rattle.ntfe_model.specs.Triangulations.{HasSide, IsSameTriple, IsSide, IsFine}
use Rattle.ntfe_model.specs.declared.triangle.Triangle.{Triangle}
use Rattle.ntfe_model.proofs.Listings.{All-from_contains}
use Rattle.ntfe_model.proofs.Triples.{Decided, decide_is_side}
use Rattle.fine_triples.specs.FineConditions.{OnSides, IsUnitTriple, IsOnceBeside, IsOnceAmong, IsEdge, IsClosed, KeepApart, KeepsApart}

-- ---- each side of a triple, and of triples

on_side : (P : ℕ → ℕ → Type 0) (t : Triangle) (x y : ℕ) → OnSides P t → HasSide t x y → P x y
on_side P t x y h s =
    ⊎_elim (λ e. moved t.a t.b e.0 e.1 h.first) (λ r. ⊎_elim (λ e. moved t.b t.c e.0 e.1 h.second) (λ e. moved t.c t.a e.0 e.1 h.third) r) s
  where
    moved : (i j : ℕ) → i ≡ x → j ≡ y → P i j → P x y
    moved i j p q z = let Q : ℕ × ℕ → Type 0 = λ e. P e.0 e.1 in subst Q (λ k. (p k, q k)) z

sides_from : (P : ℕ → ℕ → Type 0) (t : Triangle) → ((x y : ℕ) → HasSide t x y → P x y) → OnSides P t
sides_from P t h = record { first = h t.a t.b (inl (refl, refl)); second = h t.b t.c (inr (inl (refl, refl))); third = h t.c t.a (inr (inr (refl, refl))) }

on_is_side : (P : ℕ → ℕ → Type 0) (ts : List Triangle) (x y : ℕ) → All (OnSides P) ts → IsSide ts x y → P x y
on_is_side P ts x y h s = on_side P s.0 x y (All-contains (OnSides P) ts s.0 h s.1) s.2

all_sides_from : (P : ℕ → ℕ → Type 0) (ts : List Triangle) → ((x y : ℕ) → IsSide ts x y → P x y) → All (OnSides P) ts
all_sides_from P ts h = All-from_contains (OnSides P) ts (λ t k. sides_from P t (λ x y s. h x y (t, k, s)))

-- ---- both directions

module _ (h : Patch) (ts : List Triangle) (es : List (ℕ × ℕ)) (are : AreSteps h es) where
  pub fine_from : All (IsUnitTriple h) ts → All (IsOnceAmong ts) ts → All (IsEdge ts) es → All (OnSides (IsClosed ts es)) ts → All (OnSides (KeepsApart h ts)) ts → IsFine h ts
  fine_from unit once edges closed apart = record {
    unit = λ t k. (All-contains (IsUnitTriple h) ts t unit k).unit;
    once = λ t u k l x y s r.
        let beside = All-contains (IsOnceBeside t) ts u (All-contains (IsOnceAmong ts) ts t once k).beside l in
        on_side (λ i j. HasSide u i j → IsSameTriple t u) t x y beside s r;
    edge = λ x y. (
      (λ s. ⊎_elim (λ r. absurd (s.1 r)) (λ k. All-contains (λ e. IsStep h e.0 e.1) es (x, y) are.sound k) (on_is_side (IsClosed ts es) ts x y closed s.0)),
      (λ s. let e = All-contains (IsEdge ts) es (x, y) edges (are.complete (x, y) s) in (e.side, e.last)),
    );
    apart = λ a b c d s r. on_is_side (KeepApart h a b) ts c d (on_is_side (KeepsApart h ts) ts a b apart s).sides r;
  }

  pub fine_unit : IsFine h ts → All (IsUnitTriple h) ts
  fine_unit f = All-from_contains (IsUnitTriple h) ts (λ t k. record { unit = f.unit t k })

  pub fine_once : IsFine h ts → All (IsOnceAmong ts) ts
  fine_once f =
      All-from_contains (IsOnceAmong ts) ts
      (λ t k. record { beside = All-from_contains (IsOnceBeside t) ts (λ u l. sides_from (λ i j. HasSide u i j → IsSameTriple t u) t (λ x y s r. f.once t u k l x y s r)) })

  pub fine_edges : IsFine h ts → All (IsEdge ts) es
  fine_edges f =
      All-from_contains (IsEdge ts) es
      (λ e k. let s = (f.edge e.0 e.1).1 (All-contains (λ i. IsStep h i.0 i.1) es e are.sound k) in record { side = s.0; last = s.1 })

  pub fine_closed : IsFine h ts → All (OnSides (IsClosed ts es)) ts
  fine_closed f = all_sides_from (IsClosed ts es) ts (λ x y s. by x y s (decide_is_side ts y x))
    where
      by : (x y : ℕ) → IsSide ts x y → Decided (IsSide ts y x) → IsClosed ts es x y
      by x y s (inl r) = inl r
      by x y s (inr n) = inr (are.complete (x, y) ((f.edge x y).0 (s, n)))

  pub fine_apart : IsFine h ts → All (OnSides (KeepsApart h ts)) ts
  fine_apart f = all_sides_from (KeepsApart h ts) ts (λ a b s. record { sides = all_sides_from (KeepApart h a b) ts (λ c d r. f.apart a b c d s r) })
