use Rattle.std.proofs.Common.{◌+◌, ◌*◌, min, sym, ap, ◌∙◌}
use Rattle.ntfe_model.proofs.Digits.{digits-more, size-more}
use Rattle.pair_text.proofs.Digits.{magnitude-fail}
use Rattle.pair_text.proofs.number.magnitude.Goals as goal

pub returns-then-not-is_ascii_digit : goal.returns-then-not-is_ascii_digit
returns-then-not-is_ascii_digit c =
    magnitude-fail (λ n. min n 1024) c.args.digits.now c.loop-digit.digit-index c.loop-digit-test.true (sym c.is_ascii_digit.ensures.value ∙ c.if-not-is_ascii_digit.true)

pub loop-digit-preserved : goal.loop-digit-preserved
loop-digit-preserved c =
    let bs = c.args.digits.now in
    let i = c.loop-digit.digit-index in
    let digit = sym c.is_ascii_digit.ensures.value ∙ c.if-not-is_ascii_digit.false in
    record {
      digits = digits-more bs i c.loop-digit-test.true c.loop-digit.invariant.digits digit;
      size = c.min-size.ensures ∙ ap (λ d. min (c.loop-digit.size * 10 + d) 1024) c.from.ensures ∙ size-more 1024 bs i c.loop-digit.size c.loop-digit-test.true digit c.loop-digit.invariant.size;
    }
