-- A patch as the numbers of its points and the places of all points of the geometry.
use Rattle.std.specs.Prelude.{◌≡◌, ℕ, ◌-◌, ◌≤◌, List, length, map, slice_index_or, All}
use Rattle.ntfe_nums.specs.Vectors.{Vector, origin}
use Rattle.ntfe_model.specs.Pairs.{IsSmall}
use Rattle.ntfe_model.specs.Charts.{Patch, axes}
use Rattle.ntfe_model.specs.Flats.{flat_of}
use Rattle.ntfe_model.specs.declared.flat.Flat.{Flat}

-- the place of the point with this number, counted from 1
abbrev pub place_at : List Vector → ℕ → Vector
place_at vs k = slice_index_or vs (k - 1) origin

-- the points with these numbers, each at the place that stands there in the list of all places, counted from 1
abbrev pub patch : List ℕ → List Vector → Patch
patch ks vs = map (λ k. record { number = k; place = place_at vs k }) ks

-- the numbers are some of the list of places
abbrev pub AreKnown : List ℕ → List Vector → Type 0
AreKnown ks vs = All (λ k. (1 ≤ k) × (k ≤ length vs)) ks

-- each place has its two coordinates, by the axes of the patch
pub record IsTable (ks : List ℕ) (vs : List Vector) (fs : List Flat) : Type 0 where
  pub known : AreKnown ks vs
  pub small : All IsSmall vs
  pub flat : fs ≡ map (flat_of (axes (patch ks vs))) vs
