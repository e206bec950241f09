-- Rows that are mixed and divided.
use Rattle.std.specs.Prelude.{◌≡◌, ℕ, ℤ, ◌-ℤ◌, ◌*ℤ◌, ◌<◌, List}
use Rattle.strict_solver.specs.Rows.{number, AreNarrow}
use Rattle.strict_solver.specs.Grids.{row_at}

-- d times the new row is the old one times a number less the line times another, and all numbers are below 2^30 in size
pub record IsMixed (d times factor : ℤ) (old line new : List ℤ) : Type 0 where
  pub each : (j : ℕ) → d *ℤ number new j ≡ times *ℤ number old j -ℤ factor *ℤ number line j
  pub narrow : AreNarrow 30 new

-- all numbers of the rows are below 2^30 in size
pub record AreNarrowRows (rows stride : ℕ) (cells : List ℤ) : Type 0 where
  pub each : (k : ℕ) → k < rows → AreNarrow 30 (row_at stride cells k)
