use Rattle.std.proofs.Common.{take, Ok}
use Rattle.std.specs.Prelude.{flat_map}
use Rattle.io_edge.specs.Lines.{WritesText}
use Rattle.ntfe_run.specs.Fragments.{fragment_text}
use Rattle.ntfe_run.proofs.fragment.write_fragments.Given as goal

abbrev pub invariant-loop-fragment : goal.invariant-loop-fragment
invariant-loop-fragment g l =
    WritesText (g.E.Sink.taken l.fn.err) (g.E.Sink.taken l.err) (g.E.Sink.faults l.fn.err) (g.E.Sink.faults l.err) (Ok tt) (flat_map fragment_text (take l.fragment-index l.fragments))
