use Rattle.fine_stream.proofs.Parts.{AreCompatibleFrom}
use Rattle.fine_stream.proofs.sides.fits.Given as goal

abbrev pub invariant-loop-left : goal.invariant-loop-left
invariant-loop-left l = AreCompatibleFrom l.chart l.left l.triangles l.t

abbrev pub decreases-loop-left : goal.decreases-loop-left
decreases-loop-left l = l.left
