-- What a fine set asks, one condition after the other.
use Rattle.std.specs.Prelude.{ℕ, ◌⊎◌, List, All, Contains}
use Rattle.ntfe_model.specs.Charts.{Patch, place, IsUnit}
use Rattle.ntfe_model.specs.Triangulations.{HasSide, IsSameTriple, IsSide, HaveSameEnds, DoCross}
use Rattle.ntfe_model.specs.declared.triangle.Triangle.{Triangle}

-- P holds of each directed side of the triple
pub record OnSides (P : ℕ → ℕ → Type 0) (t : Triangle) : Type 0 where
  pub first : P t.a t.b
  pub second : P t.b t.c
  pub third : P t.c t.a

-- the triple is a unit triple of the face
pub record IsUnitTriple (h : Patch) (t : Triangle) : Type 0 where
  pub unit : IsUnit h t.a t.b t.c

-- the triples are one, or no directed side of the one is a side of the other
abbrev pub IsOnceBeside : Triangle → Triangle → Type 0
IsOnceBeside t u = OnSides (λ x y. HasSide u x y → IsSameTriple t u) t

-- no directed side of the triple stands in another of the triples
pub record IsOnceAmong (ts : List Triangle) (t : Triangle) : Type 0 where
  pub beside : All (IsOnceBeside t) ts

-- the step is a side, and its reverse is none
pub record IsEdge (ts : List Triangle) (e : ℕ × ℕ) : Type 0 where
  pub side : IsSide ts e.0 e.1
  pub last : ¬ (IsSide ts e.1 e.0)

-- the reverse of the side is a side, or the side is one of the steps
abbrev pub IsClosed : List Triangle → List (ℕ × ℕ) → ℕ → ℕ → Type 0
IsClosed ts es x y = IsSide ts y x ⊎ Contains es (x, y)

-- the segments have the same two ends, or they do not cross
abbrev pub KeepApart : Patch → ℕ → ℕ → ℕ → ℕ → Type 0
KeepApart h a b c d = ¬ (HaveSameEnds a b c d) → ¬ (DoCross (place h a) (place h b) (place h c) (place h d))

-- the segment keeps apart from each side of the triples
pub record KeepsApart (h : Patch) (ts : List Triangle) (a b : ℕ) : Type 0 where
  pub sides : All (OnSides (KeepApart h a b)) ts
