use Rattle.std.proofs.Common.{get_or, sym, ◌∙◌, arith}
use Rattle.std.proofs.lemmas.Int.Digits.{digits_value_more}
use Rattle.ntfe_model.proofs.Digits.{digits-more, digits-fail}
use Rattle.class_text.proofs.Decimals.{digit_room, digit_is}
use Rattle.class_text.proofs.canonical.value.Goals as goal

pub returns-then-not-is_ascii_digit : goal.returns-then-not-is_ascii_digit
returns-then-not-is_ascii_digit c =
    digits-fail c.args.digits.now c.loop-digit.digit-index c.loop-digit-test.true (sym c.is_ascii_digit.ensures.value ∙ c.if-not-is_ascii_digit.true)

pub overflow_mul-size : goal.overflow_mul-size
overflow_mul-size c =
    let r = digit_room c.loop-digit.size 0 c.loop-digit.digit-index c.loop-digit.invariant.below (omega arith) (omega arith) in
    omega arith

pub overflow_add-size : goal.overflow_add-size
overflow_add-size c =
    let b = get_or c.args.digits.now c.loop-digit.digit-index 0 in
    let digit = digit_is b (sym c.is_ascii_digit.ensures.value ∙ c.if-not-is_ascii_digit.false) in
    let r = digit_room c.loop-digit.size c.from.result c.loop-digit.digit-index c.loop-digit.invariant.below (omega (arith, digit.1, c.from.ensures)) (omega arith) in
    omega (arith, r.1)

pub loop-digit-preserved : goal.loop-digit-preserved
loop-digit-preserved c =
    let bs = c.args.digits.now in
    let i = c.loop-digit.digit-index in
    let is = sym c.is_ascii_digit.ensures.value ∙ c.if-not-is_ascii_digit.false in
    let digit = digit_is (get_or bs i 0) is in
    let r = digit_room c.loop-digit.size c.from.result i c.loop-digit.invariant.below (omega (arith, digit.1, c.from.ensures)) (omega arith) in
    record {
      digits = digits-more bs i c.loop-digit-test.true c.loop-digit.invariant.digits is;
      size = omega (arith, digits_value_more 10 bs i c.loop-digit-test.true, digit.2, c.from.ensures, c.loop-digit.invariant.size);
      below = r.0;
    }
