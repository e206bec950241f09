use Rattle.class_text.specs.Forms.{layout_of}
use Rattle.class_text.proofs.ReadLines.{read_more}
use Rattle.class_text.proofs.earlier.read_body.Goals as goal

pub loop-line-preserved : goal.loop-line-preserved
loop-line-preserved c =
    read_more (layout_of c.args.form.now) c.args.head c.args.before c.args.bytes.now c.loop-line.rest.now c.loop-line.lines c.loop-line.reader c.loop-line.invariant
    c.accept.new.self c.in-Some.line.now c.in-Some.more.now c.in-Some.ensures.lines c.in-Some.ensures.length (c.in_ok-accept.ensures.allowed c.if-not-branch.false) c.in_ok-accept.ensures.count
