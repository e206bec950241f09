-- How two segments meet.
use Rattle.std.specs.Prelude.{◌≡◌, ◌≢◌, ℕ, ◌<◌, ◌⊎◌, ℤ, ◌-ℤ◌, ◌*ℤ◌}
use Rattle.ntfe_nums.specs.Vectors.{Vector, dot}
use Rattle.ntfe_model.specs.Charts.{IsOnSegment}
use Rattle.ntfe_model.specs.Triangulations.{mixed}

-- x lies on the segment from a to b, and is no end of it
pub record IsInside (a b x : Vector) : Type 0 where
  pub on : IsOnSegment a b x
  pub first : x ≢ a
  pub second : x ≢ b

-- an end of one of the segments from a to b and from c to d lies inside the other
abbrev pub HasInsideEnd : Vector → Vector → Vector → Vector → Type 0
HasInsideEnd a b c d = IsInside a b c ⊎ IsInside a b d ⊎ IsInside c d a ⊎ IsInside c d b

-- the segments are one, from one place to another
pub record AreOneSegment (a b c d : Vector) : Type 0 where
  pub distinct : a ≢ b
  pub ends : ((a ≡ c) × (b ≡ d)) ⊎ ((a ≡ d) × (b ≡ c))

-- each segment has two ends, and they meet in a point that is an end of neither
pub record DoMeetInside (a b c d : Vector) : Type 0 where
  pub distinct : (a ≢ b) × (c ≢ d)
  pub n : ℕ
  pub s : ℕ
  pub t : ℕ
  pub first : (0 < s) × (s < n)
  pub second : (0 < t) × (t < n)
  pub meet : mixed n s a b ≡ mixed n t c d

-- 0 exactly where d and e are parallel
abbrev pub gram : Vector → Vector → ℤ
gram d e = dot d d *ℤ dot e e -ℤ dot d e *ℤ dot d e

-- the numbers s and t with s d - t e = n r, where n is the gram of d and e, for each r in their plane
abbrev pub first_share : Vector → Vector → Vector → ℤ
first_share d e r = dot d r *ℤ dot e e -ℤ dot e r *ℤ dot d e

abbrev pub second_share : Vector → Vector → Vector → ℤ
second_share d e r = dot d r *ℤ dot d e -ℤ dot e r *ℤ dot d d
