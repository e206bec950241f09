use Rattle.std.proofs.Common.{ℕ, sym, subst, arith}
use Rattle.std.specs.Int.{IsGcd}
use Rattle.std.proofs.lemmas.Nat.Gcd.{IsGcd-from_zero, IsGcd-from_mod}
use Rattle.ntfe_nums.proofs.gcd.Goals as goal

pub loop-y-preserved : goal.loop-y-preserved
loop-y-preserved c g h = c.loop-y.invariant g (IsGcd-from_mod _ _ g h)

pub returns-then-y-from : goal.returns-then-y-from
returns-then-y-from c =
    let P : ℕ → Type 0 = λ g. IsGcd c.loop-y.x c.loop-y.y g in
    c.loop-y.invariant _ (subst P (sym c.from-then-y-from.ensures) c.short_gcd.ensures)

pub returns : goal.returns
returns c = c.loop-y.invariant _ (IsGcd-from_zero _ _ (omega arith))
