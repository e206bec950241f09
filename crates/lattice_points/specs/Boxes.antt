-- Extents, and the bounding box of a list of vectors.
use Rattle.std.specs.Prelude.{◌≡◌, ◌^◌, ℤ, pos, negsuc, ◌+ℤ◌, ◌-ℤ◌, ◌≤ℤ◌, List, [], ◌∷◌, All, Any}
use Rattle.ntfe_nums.specs.Sizes.{AreWithin}
use Rattle.ntfe_nums.specs.Vectors.{Vector}
use Rattle.lattice_points.specs.declared.bounds.Extent.{Extent}
use Rattle.lattice_points.specs.declared.bounds.Bounds.{Bounds}

-- x is a number of the extent
pub record IsWithin (e : Extent) (x : ℤ) : Type 0 where
  pub low : e.low ≤ℤ x
  pub high : x ≤ℤ e.high

-- x is a number of one of the extents
abbrev pub IsInSome : List Extent → ℤ → Type 0
IsInSome es x = Any (λ e. IsWithin e x) es

-- their ends are at most 2^33 in size
abbrev pub AreShortExtents : List Extent → Type 0
AreShortExtents es = All (λ e. AreWithin (2 ^ 33) (e.low ∷ e.high ∷ [])) es

-- the extent goes from the least to the greatest value of c
pub record IsExtentOf (c : Vector → ℤ) (vs : List Vector) (e : Extent) : Type 0 where
  pub least : All (λ v. e.low ≤ℤ c v) vs
  pub greatest : All (λ v. c v ≤ℤ e.high) vs
  pub lowest : Any (λ v. c v ≡ e.low) vs
  pub highest : Any (λ v. c v ≡ e.high) vs

-- the bounding box of the vectors
pub record AreBoundsOf (vs : List Vector) (b : Bounds) : Type 0 where
  pub first : IsExtentOf (λ v. v.x1) vs b.x1
  pub second : IsExtentOf (λ v. v.x2) vs b.x2
  pub third : IsExtentOf (λ v. v.x3) vs b.x3
  pub fourth : IsExtentOf (λ v. v.x4) vs b.x4

-- how many numbers an extent has that is not empty
abbrev pub side_of_extent : Extent → ℤ
side_of_extent e = e.high -ℤ e.low +ℤ pos 1

-- not empty, and with numbers from -1023 to 1023
pub record IsSmallExtent (e : Extent) : Type 0 where
  pub low : negsuc 1022 ≤ℤ e.low
  pub some : e.low ≤ℤ e.high
  pub high : e.high ≤ℤ pos 1023
