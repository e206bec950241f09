-- The parts of a fold.
use Rattle.std.specs.Prelude.{◌≡◌, ℕ, ◌⊎◌, List, Contains}
use Rattle.ntfe_nums.specs.Vectors.{vector_sum, multiple}
use Rattle.ntfe_model.specs.Lists.{IsNumberOf}
use Rattle.ntfe_model.specs.Pairs.{IsSmall}
use Rattle.ntfe_model.specs.Points.{place_of_point}
use Rattle.ntfe_model.specs.Triangulations.{IsRotationOf}
use Rattle.ntfe_model.specs.Choices.{AreOpposite}
use Rattle.ntfe_model.specs.declared.point.Point.{Point}
use Rattle.ntfe_model.specs.declared.triangle.Triangle.{Triangle}
use Rattle.ntfe_model.specs.declared.nogood.Fold.{Fold}

-- some triple of the list is a, b, c up to rotation
abbrev pub HasTriple : List Triangle → ℕ → ℕ → ℕ → Type 0
HasTriple ts a b c = (t : Triangle) × Contains ts t × IsRotationOf t a b c

-- c and d are the third points of the edge from a to b, in either order
abbrev pub HasThirds : List Triangle → Fold → Type 0
HasThirds ts r = AreOpposite ts r.a r.b r.c r.d ⊎ AreOpposite ts r.a r.b r.d r.c

-- k is the number of a point whose place is small
abbrev pub IsSmallPoint : List Point → ℕ → Type 0
IsSmallPoint xs k = IsNumberOf xs k × IsSmall (place_of_point xs k)

-- all points of the fold are such
pub record HasSmallPoints (xs : List Point) (r : Fold) : Type 0 where
  pub a : IsSmallPoint xs r.a
  pub b : IsSmallPoint xs r.b
  pub c : IsSmallPoint xs r.c
  pub d : IsSmallPoint xs r.d

-- c + d = alpha a + beta b, at the places of the points
abbrev pub IsBalanced : List Point → Fold → Type 0
IsBalanced xs r =
    vector_sum (place_of_point xs r.c) (place_of_point xs r.d)
    ≡ vector_sum (multiple r.alpha (place_of_point xs r.a)) (multiple r.beta (place_of_point xs r.b))
