use Rattle.std.proofs.Common.{◌+◌, ◌-◌, length}
use Rattle.fine_stream.proofs.RowLemmas.{IsFetching}
use Rattle.fine_stream.proofs.row.Row.fetch.Given as goal

abbrev pub invariant-loop-self : goal.invariant-loop-self
invariant-loop-self l = IsFetching l.fn.self l.self

abbrev pub decreases-loop-self : goal.decreases-loop-self
decreases-loop-self l = l.number + 1 - length l.self.items
