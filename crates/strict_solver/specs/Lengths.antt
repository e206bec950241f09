-- How long the runs of the stated solver are.
use Rattle.std.specs.Prelude.{◌≡◌, ℕ, ◌<◌, ℤ, List, [], length, slice_index_or, None}
use Rattle.ntfe_model.specs.Solver.{Table, start_table, next_load, IsRun}

-- each row has a coefficient for each height
abbrev pub AreRowsOver : ℕ → List (List ℤ) → Type 0
AreRowsOver columns rs = (j : ℕ) → j < length rs → length (slice_index_or rs j []) ≡ columns

-- a run has come from the start to s, where no height is left to be loaded, and goes on over these tables to t
pub record IsMovingRun (columns : ℕ) (rs : List (List ℤ)) (s : Table) (moved : List Table) (t : Table) : Type 0 where
  pub loaded : List Table
  pub loading : IsRun columns (start_table columns rs) loaded s
  pub done : next_load columns s.lines s.to_load ≡ None
  pub moving : IsRun columns s moved t
