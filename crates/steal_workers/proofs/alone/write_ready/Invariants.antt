use Rattle.std.proofs.Common.{◌≡◌, ◌≤◌, length}
use Rattle.steal_workers.specs.Listings.{GoesOn}
use Rattle.steal_workers.specs.Boards.{IsAbreast, IsFewer}
use Rattle.steal_workers.proofs.alone.write_ready.Given as goal

-- the classes that were handed out are written
abbrev pub invariant-loop-board : goal.invariant-loop-board
invariant-loop-board g l =
    GoesOn l.fn.writer l.writer (record { before = g.K.Sink.taken l.fn.out; after = g.K.Sink.taken l.out }) × IsAbreast l.writer l.board × IsFewer l.fn.board l.board × (l.writer.listed ≡ l.fn.writer.listed)
    × (g.K.Sink.faults l.fn.out ≤ g.K.Sink.faults l.out)

abbrev pub decreases-loop-board : goal.decreases-loop-board
decreases-loop-board g l = length l.board.recorded
