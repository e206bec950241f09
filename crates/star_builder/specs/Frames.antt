-- What all combinations of four points need.
use Rattle.std.specs.Prelude.{◌^◌, ◌≤◌, ℕ, List, unsigned_abs}
use Rattle.ntfe_nums.specs.Sizes.{AreWithin}
use Rattle.ntfe_nums.specs.Vectors.{vector, dot}
use Rattle.ntfe_model.specs.Points.{place_of_point}
use Rattle.ntfe_model.specs.Stars.{IsCombination}
use Rattle.ntfe_model.specs.declared.point.Point.{Point}
use Rattle.star_builder.specs.declared.four.Four.{Four}
use Rattle.star_builder.specs.declared.frame.Frame.{Frame}

-- the barycentric coordinates of a point, times the size, are its products with the four normals
pub record IsFrame (xs : List Point) (f : Four) (r : Frame) : Type 0 where
  pub mixes : (p : ℕ) → IsCombination xs f.a f.b f.c f.d p r.size (dot (vector r.first) (place_of_point xs p)) (dot (vector r.second) (place_of_point xs p))
      (dot (vector r.third) (place_of_point xs p)) (dot (vector r.fourth) (place_of_point xs p))
  pub size : unsigned_abs r.size ≤ 2 ^ 48
  pub first : AreWithin (2 ^ 36) r.first
  pub second : AreWithin (2 ^ 36) r.second
  pub third : AreWithin (2 ^ 36) r.third
  pub fourth : AreWithin (2 ^ 36) r.fourth
