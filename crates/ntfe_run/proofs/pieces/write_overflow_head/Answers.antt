use Rattle.std.proofs.Common.{ℤ, subst}
use Rattle.std.specs.Int.{w128}
use Rattle.std.proofs.lemmas.Int.{to_z-of_z}
use Rattle.io_edge.specs.Lines.{WritesText}
use Rattle.ntfe_run.specs.Messages.{overflow_head}
use Rattle.ntfe_run.proofs.pieces.write_overflow_head.Goals as goal

pub returns-clause-text : goal.returns-clause-text
returns-clause-text g c =
    let P : ℤ → Type 0 = λ z. WritesText (g.E.Sink.taken c.args.err.now) (g.E.Sink.taken c.write_fragments.new.err) (g.E.Sink.faults c.args.err.now) (g.E.Sink.faults c.write_fragments.new.err) c.write_fragments.result (overflow_head c.args.step z) in
    subst P (to_z-of_z w128 c.args.number c.ranges.number) c.write_fragments.ensures.text
