use Rattle.std.proofs.Common.{◌≡◌, vec_len}
use Rattle.shared_stream.proofs.cells.Cells.new.Given as goal

abbrev pub invariant-loop-count : goal.invariant-loop-count
invariant-loop-count l = vec_len l.blocks ≡ l._count
