use Rattle.std.proofs.Common.{ℕ, List, ◌++◌, subst, append-nil}
use Rattle.std.specs.Prelude.{codes, decimal}
use Rattle.io_edge.specs.Lines.{WritesText}
use Rattle.ntfe_run.proofs.pieces.write_earlier_line.Goals as goal

pub returns-clause-text : goal.returns-clause-text
returns-clause-text g c =
    let P : List ℕ → Type 0 = λ t. WritesText (g.E.Sink.taken c.args.err.now) (g.E.Sink.taken c.write_fragments.new.err) (g.E.Sink.faults c.args.err.now) (g.E.Sink.faults c.write_fragments.new.err) c.write_fragments.result (codes "earlier output line " ++ (decimal c.args.number ++ t)) in
    subst P (append-nil c.args.what.now) (rw (← c.from.ensures) c.write_fragments.ensures.text)
