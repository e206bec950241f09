use Rattle.std.proofs.Common.{◌+◌, sym, subst, arith}
use Rattle.std.specs.Prelude.{codes}
use Rattle.class_text.specs.Forms.{layout_of}
use Rattle.class_text.specs.NumberLines.{IsNumberLine, IsRisingFour}
use Rattle.class_text.proofs.UniqueLines.{no_rising}
use Rattle.class_text.proofs.reader.is_simplex_line.Goals as goal

pub returns-clause-when_false : goal.returns-clause-when_false
returns-clause-when_false c e h =
    no_rising (layout_of c.args.form.now) c.args.line.now c.read_numbers.new.out.items (omega arith)
    (subst (λ k. IsNumberLine (codes "simplex") 4 (k + 1) c.args.line.now c.read_numbers.new.out.items) c.from-limit.ensures (c.in_ok-read_numbers.ensures.read c.if-not-branch.false)) (λ r. c.is_rising.ensures.when_false e (subst IsRisingFour (sym c.deref.ensures.value) r)) h
