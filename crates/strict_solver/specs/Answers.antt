-- A solver as contracts see it.
use Rattle.std.specs.Prelude.{ℕ, ℤ, List}

-- what is kept of the last answer
pub data Answer : Type 0 where
  unsolved : Answer
  feasible : List ℤ → Answer
  infeasible : List (ℕ × ℤ) → Answer

-- the reserved numbers of rows and columns, and the last answer
pub record Solver : Type 0 where
  pub rows : ℕ
  pub columns : ℕ
  pub answer : Answer
