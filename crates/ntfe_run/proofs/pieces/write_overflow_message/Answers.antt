use Rattle.std.proofs.Common.{ℤ, subst, Ok, Err}
use Rattle.std.specs.Int.{w128}
use Rattle.std.proofs.lemmas.Int.{to_z-of_z}
use Rattle.std.proofs.lemmas.Result.{err_from_is_err_and}
use Rattle.io_edge.specs.Lines.{WritesText}
use Rattle.io_edge.proofs.Texts.{writes_then, writes_exit}
use Rattle.ntfe_run.specs.Messages.{spaced_numbers, overflow_head}
use Rattle.ntfe_run.proofs.pieces.write_overflow_message.Goals as goal

pub returns-in_err-write_overflow_head-clause-text : goal.returns-in_err-write_overflow_head-clause-text
returns-in_err-write_overflow_head-clause-text g c =
    let p = err_from_is_err_and c.from_residual.result c.from_residual.ensures.1 in
    let P : ℤ → Type 0 = λ z. WritesText (g.E.Sink.taken c.args.err.now) (g.E.Sink.taken c.write_overflow_head.new.err) (g.E.Sink.faults c.args.err.now) (g.E.Sink.faults c.write_overflow_head.new.err) (Err c.in_err-write_overflow_head.field-0.0) (overflow_head c.args.step z) in
    rw (p.1, p.2) (writes_exit _ _ _ _ (overflow_head c.args.step c.args.number) (spaced_numbers c.args.choice.now) _ (subst P (to_z-of_z w128 c.args.number c.ranges.number) c.in_err-write_overflow_head.ensures.text))

pub returns-clause-text : goal.returns-clause-text
returns-clause-text g c =
    let P : ℤ → Type 0 = λ z. WritesText (g.E.Sink.taken c.args.err.now) (g.E.Sink.taken c.write_overflow_head.new.err) (g.E.Sink.faults c.args.err.now) (g.E.Sink.faults c.write_overflow_head.new.err) (Ok c.in_ok-write_overflow_head.field-0) (overflow_head c.args.step z) in
    writes_then _ _ _ _ _ _ (overflow_head c.args.step c.args.number) (spaced_numbers c.args.choice.now) _ (subst P (to_z-of_z w128 c.args.number c.ranges.number) c.in_ok-write_overflow_head.ensures.text) c.write_numbers.ensures.text
