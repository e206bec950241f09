-- When a polytope's points are not listed.
use Rattle.std.specs.Prelude.{◌≡◌, ℕ, ◌<◌, ℤ, pos, ◌≤ℤ◌, List, length}
use Rattle.ntfe_nums.specs.Vectors.{Vector}
use Rattle.ntfe_model.specs.Pairs.{VertexLists}
use Rattle.ntfe_model.specs.Points.{ArePoints, AreColumns}
use Rattle.ntfe_model.specs.declared.point.Point.{Point}
use Rattle.lattice_points.specs.declared.fault.PointFault.{PointFault}
use Rattle.lattice_points.specs.declared.fault.PointFault.TheVariants.{TooWide, TooMany, Memory}

-- the vertices' box has at most 16,777,216 columns
pub record HasFewColumns (vs : List Vector) : Type 0 where
  pub columns : ℤ
  pub are : AreColumns vs columns
  pub few : columns ≤ℤ pos 16777216

-- it has n columns, which is more
pub record HasColumnsOver (vs : List Vector) (n : ℕ) : Type 0 where
  pub are : AreColumns vs (pos n)
  pub over : 16777216 < n

-- there are n points, which is over 400
pub record HasPointsOver (p : VertexLists) (n : ℕ) : Type 0 where
  pub points : List Point
  pub are : ArePoints p points
  pub count : n ≡ length points
  pub over : 400 < n

-- the fault's cause
abbrev pub HasCause : VertexLists → PointFault → Type 0
HasCause p (TooWide n) = HasColumnsOver p.vertices n
HasCause p (TooMany n) = HasFewColumns p.vertices × HasPointsOver p n
HasCause p Memory = Unit {0}
