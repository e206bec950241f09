use Rattle.std.proofs.Common.{◌≡◌, [], replicate}
use Rattle.node_probe.proofs.heights.StemHeights.new.Given as goal

abbrev pub invariant-loop-face : goal.invariant-loop-face
invariant-loop-face l = l.faces.items ≡ replicate l._face []
