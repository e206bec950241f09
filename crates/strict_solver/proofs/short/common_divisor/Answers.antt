use Rattle.std.proofs.Common.{◌≡◌, subst, arith, unsigned_abs}
use Rattle.std.specs.Int.{◌∣◌, IsGcd}
use Rattle.std.proofs.Math.Nat.{one-dvd}
use Rattle.std.proofs.lemmas.Int.{ints}
use Rattle.strict_solver.specs.Rows.{number}
use Rattle.strict_solver.proofs.Divisors.{divides_next, greatest_next, divides_all}
use Rattle.strict_solver.proofs.ShortRows.{gcd_swapped}
use Rattle.strict_solver.proofs.short.common_divisor.Goals as goal
use Rattle.strict_solver.proofs.short.common_divisor.Goals.{After-divisor-common}

module _ (c : After-divisor-common) where
  size : c.unsigned_abs.result ≡ unsigned_abs (number c.args.numbers.now c.loop-number.number-index)
  size = omega (arith, ints)

  both : IsGcd c.loop-number.common c.unsigned_abs.result c.divisor-common.result
  both = gcd_swapped c.unsigned_abs.result c.loop-number.common c.divisor-common.result c.divisor-common.ensures

pub returns-then-common-eq1 : goal.returns-then-common-eq1
returns-then-common-eq1 c =
    let s = (goal.at.returns-then-common-eq1 c).After-divisor-common in
    record {
      divides = λ k. one-dvd _;
      greatest = λ m all. subst (λ z. m ∣ z) c.if-common-eq1.true (greatest_next c.args.numbers.now c.loop-number.number-index c.loop-number.common c.unsigned_abs.result c.divisor-common.result (size s) (both s) c.loop-number.invariant.1 m all);
    }

pub loop-number-preserved : goal.loop-number-preserved
loop-number-preserved c =
    let s = (goal.at.loop-number-preserved c).After-divisor-common in (
      divides_next c.args.numbers.now c.loop-number.number-index c.loop-number.common c.unsigned_abs.result c.divisor-common.result (size s) (both s) c.loop-number.invariant.0,
      greatest_next c.args.numbers.now c.loop-number.number-index c.loop-number.common c.unsigned_abs.result c.divisor-common.result (size s) (both s) c.loop-number.invariant.1,
    )

pub returns : goal.returns
returns c = record {
  divides = divides_all c.args.numbers.now c.loop-number.common c.loop-number.number-index (omega arith) c.loop-number.invariant.0;
  greatest = c.loop-number.invariant.1;
}
