use Rattle.std.proofs.Common.{◌<◌, length, arith, sym, subst}
use Rattle.std.proofs.lemmas.Bool.Decides.{nat_tests}
use Rattle.class_text.specs.Fields.{IsSize}
use Rattle.class_text.proofs.Decimals.{rest_is, negative_height, no_negative_height, positive_height}
use Rattle.class_text.proofs.canonical.is_height.Goals as goal

pub returns-then-field-eq45-clause-when_true : goal.returns-then-field-eq45-clause-when_true
returns-then-field-eq45-clause-when_true c h =
    let some : 0 < length c.args.field.now = grind (arith, nat_tests) in
    negative_height c.args.field.now some c.if-field-eq45.true (subst (IsSize 1) (rest_is c.args.field.now) (c.is_size.ensures.when_true h))

pub returns-then-field-eq45-clause-when_false : goal.returns-then-field-eq45-clause-when_false
returns-then-field-eq45-clause-when_false c h =
    no_negative_height c.args.field.now c.if-field-eq45.true (λ s. c.is_size.ensures.when_false h (subst (IsSize 1) (sym (rest_is c.args.field.now)) s))

pub returns-else-not-is_empty-clause-when_true : goal.returns-else-not-is_empty-clause-when_true
returns-else-not-is_empty-clause-when_true c h = positive_height c.args.field.now (c.is_size-else-not-is_empty.ensures.when_true h)
