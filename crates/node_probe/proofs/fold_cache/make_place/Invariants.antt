use Rattle.std.proofs.Common.{◌≡◌, length}
use Rattle.node_probe.specs.FoldCaches.{HasNoOthers}
use Rattle.node_probe.proofs.fold_cache.make_place.Given as goal

abbrev pub invariant-loop-size : goal.invariant-loop-size
invariant-loop-size l = HasNoOthers l.initial.kept.items l.kept.items × (length l.kept.items ≡ l._size)
