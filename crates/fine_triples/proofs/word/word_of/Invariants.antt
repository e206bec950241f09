use Rattle.std.proofs.Common.{◌-◌, length}
use Rattle.fine_triples.proofs.Spelling.{IsSpelled}
use Rattle.fine_triples.proofs.word.word_of.Given as goal

abbrev pub invariant-loop-waiting : goal.invariant-loop-waiting
invariant-loop-waiting l = IsSpelled l.chart l.triangles l.waiting.items l.word.items

abbrev pub decreases-loop-waiting : goal.decreases-loop-waiting
decreases-loop-waiting l = length l.triangles - length l.word.items
