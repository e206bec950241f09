use Rattle.std.proofs.Common.{◌≡◌, take}
use Rattle.node_probe.specs.FoldCaches.{patches}
use Rattle.node_probe.proofs.fold_cache.FoldCache.new.Given as goal

abbrev pub invariant-loop-face : goal.invariant-loop-face
invariant-loop-face l = l.faces.items ≡ take l.face (patches l.geometry)
