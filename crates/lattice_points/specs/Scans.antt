-- What a part of the way through the box adds to the points found.
use Rattle.std.specs.Prelude.{◌≡◌, ◌+◌, ◌≤◌, ℤ, ◌<ℤ◌, List, ◌++◌, length}
use Rattle.ntfe_nums.specs.Vectors.{Vector, Precedes}
use Rattle.ntfe_model.specs.Lists.{IsListing}
use Rattle.ntfe_model.specs.Pairs.{VertexLists}
use Rattle.ntfe_model.specs.Points.{IsPointOf}
use Rattle.ntfe_model.specs.declared.point.Point.{Point}
use Rattle.lattice_points.specs.declared.found.Found.{Found}

-- where a vector lies by its first coordinates
abbrev pub IsAnywhere : Vector → Type 0
IsAnywhere v = Unit {0}

abbrev pub IsOnPlane : ℤ → Vector → Type 0
IsOnPlane x1 v = v.x1 ≡ x1

abbrev pub IsOnLine : ℤ → ℤ → Vector → Type 0
IsOnLine x1 x2 v = (v.x1 ≡ x1) × (v.x2 ≡ x2)

abbrev pub IsOnRow : ℤ → ℤ → Vector → Type 0
IsOnRow x1 x3 v = (v.x1 ≡ x1) × (v.x3 ≡ x3)

abbrev pub IsInColumn : ℤ → ℤ → ℤ → Vector → Type 0
IsInColumn x1 x2 x3 v = (v.x1 ≡ x1) × (v.x2 ≡ x2) × (v.x3 ≡ x3)

-- with S, and with a coordinate below z
abbrev pub IsBelow : (Vector → Type 0) → (Vector → ℤ) → ℤ → Vector → Type 0
IsBelow S c z v = S v × (c v <ℤ z)

-- a point whose place has S
pub record IsPointWith (p : VertexLists) (S : Vector → Type 0) (q : Point) : Type 0 where
  pub point : IsPointOf p q
  pub place : S q.place

-- the points whose places have S were counted; and while there are at most 400, they were kept in order of coordinates
pub record Adds (p : VertexLists) (S : Vector → Type 0) (old new : Found) : Type 0 where
  pub added : List Point
  pub listing : IsListing (λ x y. Precedes x.place y.place) (IsPointWith p S) added
  pub count : new.count ≡ old.count + length added
  pub kept : new.count ≤ 400 → new.points.items ≡ old.points.items ++ added
