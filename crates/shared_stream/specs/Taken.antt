-- What is taken from a stream.
use Rattle.std.specs.Prelude.{ℕ, ◌+◌, List, length}
use Rattle.ntfe_model.specs.Charts.{Patch}
use Rattle.ntfe_model.specs.declared.triangulation.Triangulation.{Triangulation}
use Rattle.fine_stream.specs.Cursors.{Cursor, StandsBefore}
use Rattle.shared_stream.specs.Segments.{AreItemsFrom}

-- the next items were taken, and the stream stands behind them
pub record Takes (h : Patch) (first : ℕ) (after : Cursor) (xs : List Triangulation) : Type 0 where
  pub items : AreItemsFrom h first xs
  pub stands : StandsBefore after (first + length xs)
