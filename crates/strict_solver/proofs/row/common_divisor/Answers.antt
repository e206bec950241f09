use Rattle.std.proofs.Common.{◌≡◌, subst, arith, unsigned_abs}
use Rattle.std.specs.Int.{◌∣◌}
use Rattle.std.proofs.Math.Nat.{one-dvd}
use Rattle.std.proofs.lemmas.Int.{ints}
use Rattle.strict_solver.specs.Rows.{number}
use Rattle.strict_solver.proofs.Divisors.{divides_next, greatest_next, divides_all}
use Rattle.strict_solver.proofs.row.common_divisor.Goals as goal

pub returns-then-divisor-eq1 : goal.returns-then-divisor-eq1
returns-then-divisor-eq1 c = record {
  divides = λ k. one-dvd _;
  greatest = λ m all. subst (λ z. m ∣ z) c.if-divisor-eq1.true (greatest_next c.args.numbers.now c.loop-number.number-index c.loop-number.divisor c.unsigned_abs.result c.gcd-divisor.result (omega (arith, ints)) c.gcd-divisor.ensures c.loop-number.invariant.1 m all);
}

pub loop-number-preserved : goal.loop-number-preserved
loop-number-preserved c =
    let e : c.unsigned_abs.result ≡ unsigned_abs (number c.args.numbers.now c.loop-number.number-index) = omega (arith, ints) in (
      divides_next c.args.numbers.now c.loop-number.number-index c.loop-number.divisor c.unsigned_abs.result c.gcd-divisor.result e c.gcd-divisor.ensures c.loop-number.invariant.0,
      greatest_next c.args.numbers.now c.loop-number.number-index c.loop-number.divisor c.unsigned_abs.result c.gcd-divisor.result e c.gcd-divisor.ensures c.loop-number.invariant.1,
    )

pub returns : goal.returns
returns c = record {
  divides = divides_all c.args.numbers.now c.loop-number.divisor c.loop-number.number-index (omega arith) c.loop-number.invariant.0;
  greatest = c.loop-number.invariant.1;
}
