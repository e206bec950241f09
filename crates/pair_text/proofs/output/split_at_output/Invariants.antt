use Rattle.std.proofs.Common.{length}
use Rattle.pair_text.proofs.OutputLines.{NoneSoFar}
use Rattle.pair_text.proofs.output.split_at_output.Given as goal

abbrev pub invariant-loop-rest : goal.invariant-loop-rest
invariant-loop-rest l = NoneSoFar l.bytes l.rest

abbrev pub decreases-loop-rest : goal.decreases-loop-rest
decreases-loop-rest l = length l.rest
