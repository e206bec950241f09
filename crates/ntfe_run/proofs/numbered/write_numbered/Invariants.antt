use Rattle.std.proofs.Common.{take, Ok}
use Rattle.io_edge.specs.Lines.{WritesText}
use Rattle.ntfe_model.specs.FacesText.{numbered}
use Rattle.ntfe_run.proofs.numbered.write_numbered.Given as goal

abbrev pub invariant-loop-i : goal.invariant-loop-i
invariant-loop-i g l =
    WritesText (g.K.Sink.taken l.fn.out) (g.K.Sink.taken l.out) (g.K.Sink.faults l.fn.out) (g.K.Sink.faults l.out) (Ok tt) (numbered g.T.NumberedLine.line l.first (take l.i l.items))
