-- Vertices on two facets, one after the other.
use Rattle.std.specs.Prelude.{List, Any}
use Rattle.ntfe_nums.specs.Vectors.{Vector}
use Rattle.ntfe_model.specs.Reflexive.{IsTight}
use Rattle.ntfe_model.specs.Points.{SpanPlane}

-- both are tight on x
pub record IsOnBoth (m n x : Vector) : Type 0 where
  pub first : IsTight m x
  pub second : IsTight n x

-- c lies on both, and off the line through a and b
pub record IsThird (m n a b c : Vector) : Type 0 where
  pub place : IsOnBoth m n c
  pub span : SpanPlane a b c

-- b lies on both, and some third vertex goes with a and b
pub record IsSecond (m n : Vector) (vs : List Vector) (a b : Vector) : Type 0 where
  pub place : IsOnBoth m n b
  pub third : Any (IsThird m n a b) vs

-- a lies on both, and some two vertices go with it
pub record IsFirst (m n : Vector) (vs : List Vector) (a : Vector) : Type 0 where
  pub place : IsOnBoth m n a
  pub second : Any (IsSecond m n vs a) vs
