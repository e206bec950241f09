use Rattle.std.proofs.Common.{◌+◌, ◌-◌, ◌/◌, length}
use Rattle.shared_stream.proofs.HeldLemmas.{IsFetching}
use Rattle.shared_stream.proofs.held.HeldSegments.fetch.Given as goal

abbrev pub invariant-loop-self : goal.invariant-loop-self
invariant-loop-self l = IsFetching l.fn.self l.self

abbrev pub decreases-loop-self : goal.decreases-loop-self
decreases-loop-self l = l.number / 256 + 1 - length l.self.stretches
