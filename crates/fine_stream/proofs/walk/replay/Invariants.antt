use Rattle.fine_stream.specs.Places.{ArePlaced}
use Rattle.fine_stream.proofs.Going.{IsReplaying}
use Rattle.fine_stream.proofs.walk.replay.Given as goal

abbrev pub invariant-loop-c : goal.invariant-loop-c
invariant-loop-c l = IsReplaying l.word l.c-index l.fn.path l.path × (ArePlaced l.tables l.fn.path → ArePlaced l.tables l.path)
