-- What a chart keeps beside the points of its face.
use Rattle.std.specs.Prelude.{ℕ, ◌<◌, ℤ, List, AllPairs}
use Rattle.ntfe_model.specs.Charts.{Patch, spot_numbers, AreSteps}
use Rattle.ntfe_model.specs.Charts.{AreApart}
use Rattle.face_chart.specs.Units.{IsUnitArea}

-- the points have rising numbers and different places; u is the area of the unit triples, and es are the boundary steps
pub record IsCharted (h : Patch) (u : ℤ) (es : List (ℕ × ℕ)) : Type 0 where
  pub rising : AllPairs (λ j k. j < k) (spot_numbers h)
  pub apart : AreApart h
  pub units : IsUnitArea h u
  pub steps : AreSteps h es
