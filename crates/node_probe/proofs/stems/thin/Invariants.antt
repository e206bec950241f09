use Rattle.std.proofs.Common.{◌≡◌, ◌≤◌, length}
use Rattle.std.specs.Prelude.{All}
use Rattle.node_probe.proofs.stems.thin.Given as goal

abbrev pub invariant-loop-k : goal.invariant-loop-k
invariant-loop-k l = (length l.stems.items ≡ length l.fn.stems.items) × All (λ v. v.columns ≡ l.columns) l.stems.items × (l.kept ≤ l.k)
