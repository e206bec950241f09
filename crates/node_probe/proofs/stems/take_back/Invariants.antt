use Rattle.std.proofs.Common.{◌≡◌, ◌+◌, ◌≤◌, length}
use Rattle.std.specs.Prelude.{All}
use Rattle.node_probe.proofs.stems.take_back.Given as goal

abbrev pub invariant-loop-level : goal.invariant-loop-level
invariant-loop-level l = (length l.stems.items ≡ length l.fn.stems.items) × All (λ v. v.columns ≡ l.columns) l.stems.items × (l.level ≤ l.last + 1)

abbrev pub decreases-loop-level : goal.decreases-loop-level
decreases-loop-level l = l.level
