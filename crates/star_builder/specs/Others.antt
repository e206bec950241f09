-- The other points of a facet, and whether they are above four of its points.
use Rattle.std.specs.Prelude.{◌≢◌, ◌≤◌, ℕ, ℤ, List}
use Rattle.ntfe_nums.specs.Vectors.{Vector}
use Rattle.ntfe_model.specs.Points.{place_of_point}
use Rattle.ntfe_model.specs.Reflexive.{IsTight}
use Rattle.ntfe_model.specs.Stars.{IsLexAbove}
use Rattle.ntfe_model.specs.declared.point.Point.{Point}
use Rattle.star_builder.specs.declared.four.Four.{Four}

-- p lies on the facet m, and is none of the four
pub record IsOther (xs : List Point) (m : Vector) (f : Four) (p : ℕ) : Type 0 where
  pub not_a : p ≢ f.a
  pub not_b : p ≢ f.b
  pub not_c : p ≢ f.c
  pub not_d : p ≢ f.d
  pub tight : IsTight m (place_of_point xs p)

-- all of them, up to the point with the number n, are above the four
abbrev pub AreOthersAbove : List Point → List ℤ → List ℕ → Vector → Four → ℕ → Type 0
AreOthersAbove xs w order m f n = (p : ℕ) → 1 ≤ p → p ≤ n → IsOther xs m f p → IsLexAbove xs w order f.a f.b f.c f.d p
