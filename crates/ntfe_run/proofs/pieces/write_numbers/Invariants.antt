use Rattle.std.proofs.Common.{take, Ok}
use Rattle.io_edge.specs.Lines.{WritesText}
use Rattle.ntfe_run.specs.Messages.{spaced_numbers}
use Rattle.ntfe_run.proofs.pieces.write_numbers.Given as goal

-- the numbers so far
abbrev pub invariant-loop-number : goal.invariant-loop-number
invariant-loop-number g l =
    WritesText (g.E.Sink.taken l.fn.err) (g.E.Sink.taken l.err) (g.E.Sink.faults l.fn.err) (g.E.Sink.faults l.err) (Ok tt) (spaced_numbers (take l.number-index l.numbers))
