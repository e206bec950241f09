-- A walk over the members of a star in one facet, from each across its ridges.
use Rattle.std.specs.Prelude.{◌≡◌, ◌+◌, ◌++◌, ◌<◌, ◌≤◌, ◌∷◌, ◌⊎◌, ℕ, ℤ, List, [], length, slice_index_or, Contains, Option, MatchOption}
use Rattle.ntfe_nums.specs.Vectors.{Vector}
use Rattle.ntfe_model.specs.Stars.{IsMember, AreIn, IsOuterRidge, IsBeyond, order_of}
use Rattle.ntfe_model.specs.Shapes.{Shape}
use Rattle.ntfe_model.specs.declared.point.Point.{Point}
use Rattle.star_builder.specs.declared.search.Search.{Search}

-- each ridge of s lies in two facets, or the member beyond it is reached
abbrev pub IsCrossedIn : List Vector → List Point → List ℤ → List ℕ → List (List ℕ) → List ℕ → Type 0
IsCrossedIn ms xs w order reached s = (without : ℕ) → Contains s without → IsOuterRidge ms xs s without ⊎ ((t : List ℕ) × IsBeyond ms xs w order s without t × Contains reached t)

-- a member that lies in the facet
abbrev pub IsMemberIn : List Vector → List Point → List ℤ → List ℕ → ℕ → List ℕ → Type 0
IsMemberIn ms xs w order facet s = IsMember ms xs w order s × AreIn ms xs facet s

-- the new list goes on from the old one with members beyond ridges of s, and those without one of the points in done are crossed
pub record IsStep (ms : List Vector) (xs : List Point) (w : List ℤ) (order : List ℕ) (s done : List ℕ) (old new : List (List ℕ)) : Type 0 where
  pub added : List (List ℕ)
  pub items : new ≡ old ++ added
  pub sound : (t : List ℕ) → Contains added t → (without : ℕ) × IsBeyond ms xs w order s without t
  pub crossed : (without : ℕ) → Contains done without → IsOuterRidge ms xs s without ⊎ ((t : List ℕ) × IsBeyond ms xs w order s without t × Contains new t)

-- members of the facet, at least one, of which the first n are crossed
pub record IsWalked (ms : List Vector) (xs : List Point) (w : List ℤ) (order : List ℕ) (facet n : ℕ) (reached : List (List ℕ)) : Type 0 where
  pub members : (t : List ℕ) → Contains reached t → IsMemberIn ms xs w order facet t
  pub crossed : (j : ℕ) → j < n → j < length reached → IsCrossedIn ms xs w order reached (slice_index_or reached j [])
  pub start : List ℕ
  pub some : Contains reached start

-- a member in the facet at this place, or there is none with S
abbrev pub IsFound : Search → ℕ → (ℕ → ℕ → ℕ → ℕ → Type 0) → Option (List ℕ) → Type 0
IsFound s facet S found =
    MatchOption found
    ((i j k l : ℕ) → S i j k l → IsMemberIn s.dual.now s.points.now s.heights.now (order_of s.push (length s.points.now)) (facet + 1) (i ∷ j ∷ k ∷ l ∷ []) → ⊥)
    (IsMemberIn s.dual.now s.points.now s.heights.now (order_of s.push (length s.points.now)) (facet + 1))

-- the search is over the geometry's points and these heights
pub record IsSearchOf (g : Shape) (w : List ℤ) (s : Search) : Type 0 where
  pub dual : s.dual.now ≡ g.pair.dual
  pub points : s.points.now ≡ g.points
  pub heights : s.heights.now ≡ w

-- members are added, among them all of the facet
pub record AddsFacet (ms : List Vector) (xs : List Point) (w : List ℤ) (order : List ℕ) (facet : ℕ) (old new : List (List ℕ)) : Type 0 where
  pub kept : (t : List ℕ) → Contains old t → Contains new t
  pub sound : (t : List ℕ) → Contains new t → Contains old t ⊎ IsMember ms xs w order t
  pub complete : (t : List ℕ) → IsMemberIn ms xs w order facet t → Contains new t

-- members, among them all of the first n facets
pub record AreAdded (ms : List Vector) (xs : List Point) (w : List ℤ) (order : List ℕ) (n : ℕ) (found : List (List ℕ)) : Type 0 where
  pub sound : (t : List ℕ) → Contains found t → IsMember ms xs w order t
  pub complete : (facet : ℕ) → 1 ≤ facet → facet ≤ n → (t : List ℕ) → IsMemberIn ms xs w order facet t → Contains found t
