use Rattle.std.proofs.Common.{length}
use Rattle.fine_stream.specs.Places.{ArePlaced}
use Rattle.fine_stream.proofs.Going.{IsGoingBack}
use Rattle.fine_stream.proofs.walk.advance.Given as goal

abbrev pub invariant-loop-path : goal.invariant-loop-path
invariant-loop-path l = IsGoingBack l.chart l.fn.path.word.items l.path × ArePlaced l.tables l.path

abbrev pub decreases-loop-path : goal.decreases-loop-path
decreases-loop-path l = length l.path.word.items
