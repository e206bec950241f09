use Rattle.std.proofs.Common.{ℕ, ◌<◌, slice_index_or, []}
use Rattle.ntfe_nums.specs.Vectors.{vector}
use Rattle.ntfe_model.specs.Pairs.{IsSmall}
use Rattle.ntfe_model.proofs.rows.are_small.Given as goal

abbrev pub invariant-loop-row : goal.invariant-loop-row
invariant-loop-row l = (i : ℕ) → i < l.row-index → IsSmall (vector (slice_index_or l.rows i []))
