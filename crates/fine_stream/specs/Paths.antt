-- Words on their way to a fine triangulation.
use Rattle.std.specs.Prelude.{◌≡◌, ◌≢◌, ℕ, ◌⊎◌, ℤ, pos, negsuc, List, ◌++◌, All, AllPairs}
use Rattle.ntfe_model.specs.Charts.{Patch, IsOf, IsUnit, place, turn}
use Rattle.ntfe_model.specs.Triangulations.{HasSide, HaveSameEnds, DoCross}
use Rattle.ntfe_model.specs.Words.{Closes}
use Rattle.ntfe_model.specs.declared.triangle.Triangle.{Triangle}

-- one turn is to the left, and one to the right
abbrev pub AreOpposite : ℤ → ℤ → Type 0
AreOpposite x y = ((x ≡ pos 1) × (y ≡ negsuc 0)) ⊎ ((x ≡ negsuc 0) × (y ≡ pos 1))

-- (x, y) is a side of a unit triple
abbrev pub IsUnitSide : Patch → ℕ → ℕ → Type 0
IsUnitSide h x y = (z : ℕ) × IsUnit h x y z

-- the sides (x, y) and (z, w) of two triples are one directed side, or have different ends and cross
abbrev pub AreInConflict : Patch → ℕ → ℕ → ℕ → ℕ → Type 0
AreInConflict h x y z w = ((x ≡ z) × (y ≡ w)) ⊎ ((¬ (HaveSameEnds x y z w)) × DoCross (place h x) (place h y) (place h z) (place h w))

-- no side of one triple is in conflict with a side of the other
pub record AreCompatible (h : Patch) (t u : Triangle) : Type 0 where
  pub apart : (x y z w : ℕ) → HasSide t x y → HasSide u z w → ¬ (AreInConflict h x y z w)

-- no corner of the triple lies to the left of (x, y)
abbrev pub IsBeyond : Patch → ℕ → ℕ → Triangle → Type 0
IsBeyond h x y u = (turn h x y u.a ≢ pos 1) × (turn h x y u.b ≢ pos 1) × (turn h x y u.c ≢ pos 1)

-- unit triples, each two of them compatible
pub record IsPart (h : Patch) (ts : List Triangle) : Type 0 where
  pub unit : All (λ t. IsUnit h t.a t.b t.c) ts
  pub compatible : AllPairs (AreCompatible h) ts

-- the steps lead from points of the face to points of the face
abbrev pub AreOf : Patch → List (ℕ × ℕ) → Type 0
AreOf h steps = All (λ e. IsOf h e.0 × IsOf h e.1) steps

-- where the triples ts stand and these steps wait, the word leads on by the triples us until nothing waits
pub record Completes (h : Patch) (ts : List Triangle) (steps : List (ℕ × ℕ)) (word : List ℕ) (us : List Triangle) : Type 0 where
  pub closes : Closes steps word us
  pub part : IsPart h (ts ++ us)
