-- Rows in words of 64 bits.
use Rattle.std.specs.Prelude.{◌≡◌, ℕ, ◌+◌, ◌*◌, ◌^◌, ◌<◌, ◌≤◌, ℤ, pos, ◌*ℤ◌, ◌<ℤ◌, unsigned_abs, List}
use Rattle.strict_solver.specs.Rows.{number}
use Rattle.strict_solver.specs.declared.short.Shares.{Shares}

-- no number of the list is larger in size
pub record IsLargest (numbers : List ℤ) (size : ℕ) : Type 0 where
  pub each : (k : ℕ) → unsigned_abs (number numbers k) ≤ size
  pub small : size < 2 ^ 62

-- the denominator and the factor, divided by one number
pub record AreShares (denominator factor : ℤ) (shares : Shares) : Type 0 where
  pub common : ℕ
  pub some : 0 < common
  pub row : pos common *ℤ shares.row ≡ denominator
  pub pivot : pos common *ℤ shares.pivot ≡ factor
  pub positive : pos 0 <ℤ shares.row
  pub row_small : unsigned_abs shares.row < 2 ^ 62
  pub pivot_small : unsigned_abs shares.pivot < 2 ^ 62

-- the row times its share and the pivot row times its share fit into words
pub record IsShort (shares : Shares) (row pivot : List ℤ) : Type 0 where
  pub each : (k : ℕ) → unsigned_abs shares.row * unsigned_abs (number row k) + unsigned_abs shares.pivot * unsigned_abs (number pivot k) < 2 ^ 63
