use Rattle.std.proofs.Common.{◌≡◌, ◌≤◌, length}
use Rattle.steal_workers.specs.Listings.{GoesOn}
use Rattle.steal_workers.specs.Boards.{IsPlace}
use Rattle.steal_workers.specs.Shared.{IsRow}
use Rattle.steal_workers.proofs.writer.Writer.write_row.Given as goal

-- the classes that were taken out of the row are written
abbrev pub invariant-loop-row : goal.invariant-loop-row
invariant-loop-row g l = record {
  on : GoesOn l.fn.self l.self (record { before = g.K.Sink.taken l.fn.out; after = g.K.Sink.taken l.out });
  listed : l.self.listed ≡ l.fn.self.listed;
  place : IsPlace l.self.listed l.self.last;
  row : IsRow l.self.listed l.self.last l.row;
  later : g.K.Sink.faults l.fn.out ≤ g.K.Sink.faults l.out;
}

abbrev pub decreases-loop-row : goal.decreases-loop-row
decreases-loop-row g l = length l.row
