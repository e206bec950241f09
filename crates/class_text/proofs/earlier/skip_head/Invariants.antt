use Rattle.std.proofs.Common.{length}
use Rattle.class_text.proofs.ReadLines.{SameSoFar}
use Rattle.class_text.proofs.earlier.skip_head.Given as goal

abbrev pub invariant-loop-expected : goal.invariant-loop-expected
invariant-loop-expected l = SameSoFar l.head l.bytes l.due l.behind.rest.now l.behind.lines

abbrev pub decreases-loop-expected : goal.decreases-loop-expected
decreases-loop-expected l = length l.due
