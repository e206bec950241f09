use Rattle.std.proofs.Common.{take, Ok}
use Rattle.std.specs.Prelude.{flat_map}
use Rattle.io_edge.specs.Lines.{WritesText}
use Rattle.class_text.proofs.lines.write_items.Given as goal

abbrev pub invariant-loop-item : goal.invariant-loop-item
invariant-loop-item g l =
    WritesText (g.K.Sink.taken l.fn.out) (g.K.Sink.taken l.out) (g.K.Sink.faults l.fn.out) (g.K.Sink.faults l.out) (Ok tt) (flat_map g.T.Line.line (take l.item-index l.items))
