use Rattle.std.proofs.Common.{◌≡◌, ◌≤◌, ◌-◌, length}
use Rattle.steal_workers.specs.Listings.{GoesOn}
use Rattle.steal_workers.specs.Boards.{IsAbreast, key_power, least_value}
use Rattle.steal_workers.proofs.alone.list_all.Given as goal

-- the classes up to the last one are written, and what waits on the board may be come to
abbrev pub invariant-loop-writer : goal.invariant-loop-writer
invariant-loop-writer g l =
    GoesOn l.fn.writer l.writer (record { before = g.K.Sink.taken l.fn.out; after = g.K.Sink.taken l.out }) × IsAbreast l.writer l.board × (l.writer.listed ≡ l.fn.writer.listed) × (l.prober ≡ l.fn.prober)
    × (g.B.Book.shape l.book ≡ g.B.Book.shape l.fn.book) × (g.K.Sink.faults l.fn.out ≤ g.K.Sink.faults l.out)

-- the least open key rises
abbrev pub decreases-loop-writer : goal.decreases-loop-writer
decreases-loop-writer g l = key_power (length l.fn.prober.geometry.faces) - least_value (length l.fn.prober.geometry.faces) l.board.open_keys
