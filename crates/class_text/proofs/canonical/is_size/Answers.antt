use Rattle.std.proofs.Common.{arith}
use Rattle.std.proofs.lemmas.Bool.Decides.{nat_tests}
use Rattle.class_text.proofs.Decimals.{same_number}
use Rattle.class_text.proofs.canonical.is_size.Goals as goal

pub returns-then-size-least-clause-when_false : goal.returns-then-size-least-clause-when_false
returns-then-size-least-clause-when_false c f h =
    let e = same_number c.args.digits.now h.size c.in-Some.size (omega arith) c.in-Some.ensures.0 h.is c.in-Some.ensures.1 in
    grind (arith, nat_tests)

pub returns-else-size-least-clause-when_false : goal.returns-else-size-least-clause-when_false
returns-else-size-least-clause-when_false c f h =
    let e = same_number c.args.digits.now h.size c.in-Some.size (omega arith) c.in-Some.ensures.0 h.is c.in-Some.ensures.1 in
    grind (arith, nat_tests)
