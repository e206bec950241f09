use Rattle.nogood_set.proofs.Walks.{Found}
use Rattle.nogood_set.proofs.set.NogoodSet.blocks.Given as goal

abbrev pub invariant-loop-face : goal.invariant-loop-face
invariant-loop-face l = Found l.self l.key l.face l.first
