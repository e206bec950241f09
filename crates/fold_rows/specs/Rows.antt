-- The parts of a fold, and how the list of the folds is made.
use Rattle.std.specs.Prelude.{◌≡◌, ℕ, ◌<◌, ◌≤◌, ◌⊎◌, ℤ, pos, ◌+ℤ◌, ◌-ℤ◌, ◌*ℤ◌, slice_index_or, List, [], ◌++◌, All, Contains}
use Rattle.ntfe_nums.specs.Vectors.{Vector, vector_sum, multiple}
use Rattle.ntfe_model.specs.Lists.{IsListing, IsBefore2}
use Rattle.ntfe_model.specs.Charts.{Patch, place, IsUnit}
use Rattle.ntfe_model.specs.Triangulations.{IsRotationOf}
use Rattle.ntfe_model.specs.Choices.{IsFoldOf, IsSmallFold}
use Rattle.ntfe_model.specs.declared.triangle.Triangle.{Triangle}
use Rattle.ntfe_model.specs.declared.triangulation.Triangulation.{Triangulation}
use Rattle.ntfe_model.specs.declared.nogood.Fold.{Fold}

-- a is a corner of the triple
abbrev pub HasPoint : Triangle → ℕ → Type 0
HasPoint t a = (t.a ≡ a) ⊎ (t.b ≡ a) ⊎ (t.c ≡ a)

-- us are some of the triples ts, and all that have the corner a are among them
pub record AreAround (ts : List Triangle) (a : ℕ) (us : List Triangle) : Type 0 where
  pub sound : (t : Triangle) → Contains us t → Contains ts t
  pub complete : (t : Triangle) → Contains ts t → HasPoint t a → Contains us t

-- c is the third point of a triple of the list with the side (a, b)
abbrev pub IsThird : List Triangle → ℕ → ℕ → ℕ → Type 0
IsThird ts a b c = (t : Triangle) × Contains ts t × IsRotationOf t a b c

-- all triples of the list are unit triples of the face
abbrev pub AreUnits : Patch → List Triangle → Type 0
AreUnits h ts = (t : Triangle) → Contains ts t → IsUnit h t.a t.b t.c

-- c + d = (2 - n) a + n b
abbrev pub IsBalance : Vector → Vector → Vector → Vector → ℤ → Type 0
IsBalance a b c d n = vector_sum c d ≡ vector_sum (multiple (pos 2 -ℤ n) a) (multiple n b)

-- the same in the coordinate at the place i of the lists
abbrev pub IsFactorAt : List ℤ → List ℤ → List ℤ → List ℤ → ℕ → ℤ → Type 0
IsFactorAt a b c d i n = slice_index_or c i (pos 0) +ℤ slice_index_or d i (pos 0) ≡ (pos 2 -ℤ n) *ℤ slice_index_or a i (pos 0) +ℤ n *ℤ slice_index_or b i (pos 0)

-- some whole n balances them
abbrev pub AreBalanced : Vector → Vector → Vector → Vector → Type 0
AreBalanced a b c d = (n : ℤ) × IsBalance a b c d n

-- the triples as an item whose word is not known
abbrev pub unspelled : List Triangle → Triangulation
unspelled ts = record { word = []; triangles = ts }

-- the form of a and b with the third points c and d, the lesser of them first
pub record IsFoldBetween (h : Patch) (a b c d : ℕ) (r : Fold) : Type 0 where
  pub edge : (r.a ≡ a) × (r.b ≡ b)
  pub thirds : ((c < d) × (r.c ≡ c) × (r.d ≡ d)) ⊎ ((d ≤ c) × (r.c ≡ d) × (r.d ≡ c))
  pub balance : IsBalance (place h a) (place h b) (place h c) (place h d) r.beta
  pub two : r.alpha +ℤ r.beta ≡ pos 2

-- all folds whose edge has S were added, in order of edges
pub record AddsFolds (h : Patch) (x : Triangulation) (S : ℕ → ℕ → Type 0) (old new : List Fold) : Type 0 where
  pub added : List Fold
  pub listing : IsListing (λ q r. IsBefore2 q.a q.b r.a r.b) (λ r. IsFoldOf h x r × S r.a r.b) added
  pub small : All IsSmallFold added
  pub items : new ≡ old ++ added
