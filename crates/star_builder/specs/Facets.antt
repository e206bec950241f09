-- The facets through points, as the bits of numbers.
use Rattle.std.specs.Prelude.{◌≡◌, ℕ, ◌+◌, ◌<◌, List, length, slice_index}
use Rattle.ntfe_nums.specs.Vectors.{Vector}
use Rattle.ntfe_model.specs.Points.{place_of_point}
use Rattle.ntfe_model.specs.TightBits.{AreTightBits}
use Rattle.ntfe_model.specs.declared.point.Point.{Point}

-- one number for each of the first n points, with the bits of the facets through it
pub record AreMasks (xs : List Point) (ms : List Vector) (n : ℕ) (masks : List ℕ) : Type 0 where
  pub count : length masks ≡ n
  pub bits : (i : ℕ) → i < n → AreTightBits (place_of_point xs (i + 1)) ms (length ms) (slice_index masks i)
