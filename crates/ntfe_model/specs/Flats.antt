-- Points in two of their coordinates.
use Rattle.std.specs.Prelude.{ℕ, ◌≤◌, ℤ, ◌-ℤ◌, [], ◌∷◌}
use Rattle.ntfe_nums.specs.Sizes.{AreWithin}
use Rattle.ntfe_nums.specs.Vectors.{Vector, coordinate, det2}
use Rattle.ntfe_model.specs.declared.flat.Flat.{Flat}

-- two of the numbers from 1 to 4
abbrev pub AreAxes : ℕ × ℕ → Type 0
AreAxes q = (1 ≤ q.0) × (q.0 ≤ 4) × (1 ≤ q.1) × (q.1 ≤ 4)

abbrev pub flat_of : ℕ × ℕ → Vector → Flat
flat_of q v = record { x = coordinate q.0 v; y = coordinate q.1 v }

pub record IsSmallFlat (a : Flat) : Type 0 where
  pub small : AreWithin 1023 (a.x ∷ a.y ∷ [])

-- twice the area of three points, negative where they turn to the right
abbrev pub area_of_flats : Flat → Flat → Flat → ℤ
area_of_flats a b c = det2 (b.x -ℤ a.x) (b.y -ℤ a.y) (c.x -ℤ a.x) (c.y -ℤ a.y)
