-- Which entries of a list are tight on a vector, as the bits of a number.
use Rattle.std.specs.Prelude.{◌≡◌, ℕ, ◌<◌, List, length}
use Rattle.std.specs.Int.{bit_at}
use Rattle.ntfe_nums.specs.Vectors.{Vector}
use Rattle.ntfe_model.specs.Reflexive.{at, IsTight}

-- bit k is set exactly where k is below n and the entry at place k is tight on v
pub record AreTightBits (v : Vector) (ms : List Vector) (n bits : ℕ) : Type 0 where
  pub sound : (k : ℕ) → bit_at bits k ≡ 1 → (k < n) × IsTight (at ms k) v
  pub complete : (k : ℕ) → k < n → IsTight (at ms k) v → bit_at bits k ≡ 1

-- the entry at this place is tight on all four points
pub record IsFacetOf (ms : List Vector) (a b c d : Vector) (k : ℕ) : Type 0 where
  pub place : k < length ms
  pub first : IsTight (at ms k) a
  pub second : IsTight (at ms k) b
  pub third : IsTight (at ms k) c
  pub fourth : IsTight (at ms k) d
