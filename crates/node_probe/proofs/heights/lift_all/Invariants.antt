use Rattle.std.proofs.Common.{take}
use Rattle.node_probe.specs.Lifted.{LiftsAll}
use Rattle.node_probe.proofs.heights.lift_all.Given as goal

abbrev pub invariant-loop-fold : goal.invariant-loop-fold
invariant-loop-fold l = LiftsAll l.heights (take l.fold-index l.folds)
