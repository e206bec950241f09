use Rattle.std.proofs.Common.{refl, arith}
use Rattle.std.proofs.lemmas.Int.{ints}
use Rattle.ntfe_model.proofs.rows.is_small.Goals as goal
use Rattle.ntfe_model.proofs.rows.is_small.Goals.{then-c-ltminus1023-via-then-c-ltminus1023, then-c-ltminus1023-via-else-c-ltminus1023+then-c-gt1023, then-c-ltminus1023-via-else-c-ltminus1023+else-c-gt1023+then-d-ltminus1023, then-c-ltminus1023-via-else-c-ltminus1023+else-c-gt1023+else-d-ltminus1023+then-d-gt1023}

pub returns-then-c-ltminus1023 : goal.returns-then-c-ltminus1023
returns-then-c-ltminus1023 c = (
  λ t. cc,
  λ small. absurd (elim c.then-c-ltminus1023.branch [
    | then-c-ltminus1023-via-then-c-ltminus1023 w ↦ omega (arith, ints, small.low3, w.if-c-ltminus1023.true)
    | then-c-ltminus1023-via-else-c-ltminus1023+then-c-gt1023 w ↦ omega (arith, ints, small.high3, w.if-c-gt1023.true)
    | then-c-ltminus1023-via-else-c-ltminus1023+else-c-gt1023+then-d-ltminus1023 w ↦ omega (arith, ints, small.low4, w.if-d-ltminus1023.true)
    | then-c-ltminus1023-via-else-c-ltminus1023+else-c-gt1023+else-d-ltminus1023+then-d-gt1023 w ↦ omega (arith, ints, small.high4, w.if-d-gt1023.true)
  ]),
)

pub returns : goal.returns
returns c = (
  λ t. record {
    low1 = omega (arith, ints, c.if-a-ltminus1023.false);
    high1 = omega (arith, ints, c.if-a-gt1023.false);
    low2 = omega (arith, ints, c.if-b-ltminus1023.false);
    high2 = omega (arith, ints, c.if-b-gt1023.false);
    low3 = omega (arith, ints, c.if-c-ltminus1023.false);
    high3 = omega (arith, ints, c.if-c-gt1023.false);
    low4 = omega (arith, ints, c.if-d-ltminus1023.false);
    high4 = omega (arith, ints, c.if-d-gt1023.false);
  },
  λ small. refl,
)
