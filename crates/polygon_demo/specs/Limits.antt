-- How much the listing of a pair's points asks for.
use Rattle.std.specs.Prelude.{◌≤◌, ℤ, pos, ◌≤ℤ◌, List, length}
use Rattle.ntfe_model.specs.Pairs.{VertexLists}
use Rattle.ntfe_model.specs.Points.{ArePoints, AreColumns}
use Rattle.ntfe_model.specs.declared.point.Point.{Point}

-- the vertices' bounding box has at most 27 columns, and there are at most 81 points
pub record IsSmallPair (p : VertexLists) : Type 0 where
  pub columns : (n : ℤ) → AreColumns p.vertices n → n ≤ℤ pos 27
  pub points : (xs : List Point) → ArePoints p xs → length xs ≤ 81
