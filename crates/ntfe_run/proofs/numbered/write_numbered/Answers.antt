use Rattle.std.proofs.Common.{List, ℕ, suc, ◌+◌, Ok, take, drop, sym, subst, arith}
use Rattle.std.proofs.lemmas.Result.{err_from_is_err_and}
use Rattle.io_edge.specs.Lines.{WritesText}
use Rattle.io_edge.proofs.Texts.{writes_then, writes_stop}
use Rattle.ntfe_model.specs.FacesText.{numbered}
use Rattle.ntfe_run.proofs.NumberedLines.{numbered-at, numbered-more}
use Rattle.ntfe_run.proofs.numbered.write_numbered.Goals as goal

pub returns-in_err-write_numbered_line : goal.returns-in_err-write_numbered_line
returns-in_err-write_numbered_line g c =
    let p = err_from_is_err_and c.from_residual.result c.from_residual.ensures.1 in
    let line = g.T.NumberedLine.line in
    let k = c.args.first in
    let xs = c.args.items.now in
    let i = c.loop-i.i in
    let x = c.index-items-i.result in
    rw (p.1, p.2)
    (writes_stop _ _ _ _ _ _ (numbered line k (take i xs)) (line (k + i) x) (numbered line (k + i + 1) (drop (suc i) xs)) _ _
    (numbered-at line k xs i x (omega arith) c.index-items-i.is) c.loop-i.invariant c.in_err-write_numbered_line.ensures)

pub loop-i-preserved : goal.loop-i-preserved
loop-i-preserved g c =
    let line = g.T.NumberedLine.line in
    let k = c.args.first in
    let xs = c.args.items.now in
    let i = c.loop-i.i in
    let x = c.index-items-i.result in
    let taken = g.K.Sink.taken in
    let faults = g.K.Sink.faults in
    let P : List ℕ → Type 0 = WritesText (taken c.args.out.now) (taken c.write_numbered_line.new.out) (faults c.args.out.now) (faults c.write_numbered_line.new.out) (Ok tt) in
    subst P (sym (numbered-more line k xs i x (omega arith) c.index-items-i.is))
    (writes_then _ _ _ _ _ _ (numbered line k (take i xs)) (line (k + i) x) _ c.loop-i.invariant c.in_ok-write_numbered_line.ensures)
