use Rattle.std.proofs.Common.{◌≡◌, ◌++◌, map, take}
use Rattle.polygon_demo.specs.Polygons.{joined}
use Rattle.polygon_demo.proofs.pairs.append_over.Given as goal

abbrev pub invariant-loop-v : goal.invariant-loop-v
invariant-loop-v l = l.out.items ≡ l.initial.out.items ++ map (joined l.u) (take l.v-index l.second)
