use Rattle.std.proofs.Common.{◌≡◌, ◌++◌, replicate}
use Rattle.node_probe.proofs.head.add_rows.Given as goal

abbrev pub invariant-loop-fold : goal.invariant-loop-fold
invariant-loop-fold l = (l.rows.folds.items ≡ l.initial.rows.folds.items) × (l.rows.faces.items ≡ l.initial.rows.faces.items ++ replicate l._fold l.face)
