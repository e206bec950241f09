use Rattle.std.proofs.Common.{◌≡◌, ◌++◌, map, flat_map, take}
use Rattle.polygon_demo.specs.Polygons.{joined}
use Rattle.polygon_demo.proofs.pairs.append_products.Given as goal

abbrev pub invariant-loop-u : goal.invariant-loop-u
invariant-loop-u l = l.out.items ≡ l.initial.out.items ++ flat_map (λ u. map (joined u) l.second) (take l.u-index l.first)
