-- What decides whether a triple is a unit triple.
use Rattle.std.specs.Prelude.{◌≡◌, ℕ, ◌^◌, ◌≤◌, ℤ, pos, ◌+ℤ◌, ◌-ℤ◌, ◌*ℤ◌, ◌<ℤ◌, unsigned_abs, List, slice_index_or}
use Rattle.ntfe_nums.specs.Vectors.{area}
use Rattle.ntfe_model.specs.Charts.{Patch, axes, place, reached, IsOf, IsUnit}
use Rattle.face_chart.specs.declared.units.Multiples.{Multiples}

pub record AreSmallMultiples (m : Multiples) : Type 0 where
  pub first : unsigned_abs m.s ≤ 2 ^ 24
  pub second : unsigned_abs m.t ≤ 2 ^ 24

-- a + s (b - a) + t (c - a), in the coordinate at this place
abbrev pub reached_at : List ℤ → List ℤ → List ℤ → Multiples → ℕ → ℤ
reached_at a b c m i =
    slice_index_or a i (pos 0) +ℤ (m.s *ℤ (slice_index_or b i (pos 0) -ℤ slice_index_or a i (pos 0)) +ℤ m.t *ℤ (slice_index_or c i (pos 0) -ℤ slice_index_or a i (pos 0)))

-- the point is reached from a by whole multiples of the sides b - a and c - a
abbrev pub IsReached : Patch → ℕ → ℕ → ℕ → ℕ → Type 0
IsReached h a b c p = (s : ℤ) × (t : ℤ) × (place h p ≡ reached (place h a) (place h b) (place h c) s t)

-- u is the area of all unit triples, and of no other triples of the face that turn to the left; 0 where there is no unit triple
pub record IsUnitArea (h : Patch) (u : ℤ) : Type 0 where
  pub size : unsigned_abs u ≤ 2 ^ 24
  pub of_units : (a b c : ℕ) → IsUnit h a b c → area (axes h) (place h a) (place h b) (place h c) ≡ u
  pub units : (a b c : ℕ) → IsOf h a × IsOf h b × IsOf h c → area (axes h) (place h a) (place h b) (place h c) ≡ u → pos 0 <ℤ u → IsUnit h a b c
