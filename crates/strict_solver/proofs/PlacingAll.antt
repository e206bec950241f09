-- The places of the start, one after the other.
use Rattle.std.proofs.Common.{◌≡◌, ℕ, ◌+◌, ◌-◌, ◌<◌, ◌≤◌, ◌⊎◌, inl, inr, sym, ap, ◌∙◌, arith, List, length, Some}
use Rattle.std.specs.Prelude.{slice_get, vec_capacity}
use Rattle.strict_solver.specs.declared.place.Place.{Place}
use Rattle.strict_solver.specs.declared.place.Place.TheVariants.{Row, Column}
use Rattle.strict_solver.specs.declared.grid.Grid.{Grid}
use Rattle.strict_solver.specs.Grids.{IsPlacing}
use Rattle.strict_solver.specs.Starts.{IsStartPlacing}
use Rattle.strict_solver.proofs.Elimination.{from_place, same_place}

pub record IsPlacedTo (old now : Grid) (n m : ℕ) : Type 0 where
  pub columns : now.columns ≡ old.columns
  pub cells : now.cells ≡ old.cells
  pub pivot : now.pivot ≡ old.pivot
  pub scratch : now.scratch ≡ old.scratch
  pub capacity : vec_capacity now.places ≡ vec_capacity old.places
  pub places : IsStartPlacing n m now.places.items

-- ---- such places are a placing
module _ (n m : ℕ) (ps : List Place) (h : IsStartPlacing n m ps) where
  -- which place it is
  pub which : (v : ℕ) (o : Place) → slice_get ps v ≡ Some o → ((v < n) × (o ≡ Column (v + 2))) ⊎ ((r : ℕ) × (r < m) × (v ≡ n + r) × (o ≡ Row r))
  which v o e = by (let c : (v < n) ⊎ (n ≤ v) = grind arith in c)
    where
      by : (v < n) ⊎ (n ≤ v) → ((v < n) × (o ≡ Column (v + 2))) ⊎ ((r : ℕ) × (r < m) × (v ≡ n + r) × (o ≡ Row r))
      by (inl l) = inl (l, same_place ps v o _ e (h.heights v l))
      by (inr l) =
          let f = from_place ps v o o e in
          let q : v ≡ n + (v - n) = omega arith in
          let w : v - n < m = (let a = f.0 in let c = h.count in omega arith) in
          inr (v - n, w, q, same_place ps v o _ e (ap (slice_get ps) q ∙ h.slacks (v - n) w))

  pub start_placing : IsPlacing n ps
  start_placing = record {
    count = (let c = h.count in omega arith);
    rows_within = λ v r e. row v r (which v (Row r) e);
    columns_within = λ v p e. column v p (which v (Column p) e);
    apart = λ u v o e f. alike u v o (which u o e) (which v o f);
    taken = λ p l k. (p - 2, h.heights (p - 2) (omega arith) ∙ ap (λ q. Some (Column q)) (let q : p - 2 + 2 ≡ p = omega arith in q));
  }
    where
      row : (v r : ℕ) → ((v < n) × (Row r ≡ Column (v + 2))) ⊎ ((q : ℕ) × (q < m) × (v ≡ n + q) × (Row r ≡ Row q)) → n + r < length ps
      row v r (inl a) = let b : Row r ≡ Column (v + 2) = a.1 in cc
      row v r (inr a) = let b : Row r ≡ Row a.0 = a.3 in let d : r ≡ a.0 = cc in let e = a.1 in let c = h.count in omega arith

      column : (v p : ℕ) → ((v < n) × (Column p ≡ Column (v + 2))) ⊎ ((q : ℕ) × (q < m) × (v ≡ n + q) × (Column p ≡ Row q)) → (2 ≤ p) × (p < n + 2)
      column v p (inl a) = let b : Column p ≡ Column (v + 2) = a.1 in let d : p ≡ v + 2 = cc in let e = a.0 in (omega arith, omega arith)
      column v p (inr a) = let b : Column p ≡ Row a.0 = a.3 in cc

      alike : (u v : ℕ) (o : Place) → ((u < n) × (o ≡ Column (u + 2))) ⊎ ((q : ℕ) × (q < m) × (u ≡ n + q) × (o ≡ Row q)) → ((v < n) × (o ≡ Column (v + 2))) ⊎ ((q : ℕ) × (q < m) × (v ≡ n + q) × (o ≡ Row q)) → u ≡ v
      alike u v o (inl a) (inl b) = let c : Column (u + 2) ≡ Column (v + 2) = sym a.1 ∙ b.1 in let d : u + 2 ≡ v + 2 = cc in omega arith
      alike u v o (inl a) (inr b) = let c : Column (u + 2) ≡ Row b.0 = sym a.1 ∙ b.3 in cc
      alike u v o (inr a) (inl b) = let c : Row a.0 ≡ Column (v + 2) = sym a.3 ∙ b.1 in cc
      alike u v o (inr a) (inr b) = let c : Row a.0 ≡ Row b.0 = sym a.3 ∙ b.3 in let d : a.0 ≡ b.0 = cc in let e = a.2 in let f = b.2 in omega arith
