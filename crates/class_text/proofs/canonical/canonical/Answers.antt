use Rattle.std.proofs.Common.{◌≡◌, ◌<◌, ◌⊎◌, length, get_or, arith}
use Rattle.std.proofs.lemmas.Bool.Decides.{nat_tests}
use Rattle.class_text.proofs.Decimals.{no_length, no_leading_zero, from_value}
use Rattle.class_text.proofs.canonical.canonical.Goals as goal

pub returns-then-is_empty : goal.returns-then-is_empty
returns-then-is_empty c =
    let h : (length c.args.digits.now ≡ 0) ⊎ (19 < length c.args.digits.now) = grind (arith, nat_tests) in
    no_length c.args.digits.now h

pub returns-then-digits-gt1 : goal.returns-then-digits-gt1
returns-then-digits-gt1 c =
    let h : 1 < length c.args.digits.now = omega arith in
    no_leading_zero c.args.digits.now c.if-digits-eq48.true h

pub returns : goal.returns
returns c =
    let some : 0 < length c.args.digits.now = grind (arith, nat_tests) in
    let lead : get_or c.args.digits.now 0 0 ≡ 48 → length c.args.digits.now ≡ 1 = λ e. grind (arith, nat_tests) in
    from_value c.args.digits.now c.value.result some (omega arith) lead c.value.ensures
