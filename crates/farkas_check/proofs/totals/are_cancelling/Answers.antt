use Rattle.std.proofs.Common.{◌+◌, ◌∙◌, ap, of_z, arith}
use Rattle.std.specs.Int.{w128}
use Rattle.farkas_check.proofs.totals.are_cancelling.Goals as goal

pub returns-then-total-ne0-clause-when_false : goal.returns-then-total-ne0-clause-when_false
returns-then-total-ne0-clause-when_false c = λ e f.
    let l = c.loop-k-test.true in
    c.if-total-ne0.true (ap (of_z w128) (c.total.ensures ∙ f (c.loop-k.k + 1) (omega arith) (omega (arith, l))))
