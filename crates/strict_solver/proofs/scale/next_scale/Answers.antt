use Rattle.std.proofs.Common.{◌≡◌, ℕ, ◌*◌, ◌/◌, ◌<◌, sym, subst, arith, unsigned_abs}
use Rattle.std.specs.Int.{IsGcd}
use Rattle.std.proofs.lemmas.Int.{ints}
use Rattle.std.proofs.lemmas.Nat.Gcd.{same_from_IsGcd}
use Rattle.strict_solver.specs.Scales.{gcd_of, reduced_denominator, common_multiple}
use Rattle.strict_solver.proofs.Denominators.{gcd_of-is, reduced_positive, multiple_positive, gcd_first_positive}
use Rattle.strict_solver.proofs.scale.next_scale.Goals as goal
use Rattle.strict_solver.proofs.scale.next_scale.Goals.{After-from-3, After-from-5}

-- the divisor of numbers that are known
divisor_is : (x y a b g : ℕ) → x ≡ a → y ≡ b → IsGcd x y g → g ≡ gcd_of a b
divisor_is x y a b g e f h =
    let P : ℕ → Type 0 = λ k. IsGcd k y g in
    let Q : ℕ → Type 0 = λ k. IsGcd a k g in
    same_from_IsGcd a b g (gcd_of a b) (subst Q f (subst P e h)) (gcd_of-is a b)

module _ (c : After-from-3) where
  some : 0 < unsigned_abs c.args.d.now
  some = let h = c.requires.d in omega (arith, ints)

  common_is : c.gcd-common.result ≡ gcd_of (unsigned_abs c.args.d.now) (unsigned_abs c.args.c.now)
  common_is = divisor_is c.from.result c.from-2.result (unsigned_abs c.args.d.now) (unsigned_abs c.args.c.now) c.gcd-common.result (omega (arith, ints)) (omega (arith, ints)) c.gcd-common.ensures

  denominator_is : c.from-3.result / c.gcd-common.result ≡ reduced_denominator (unsigned_abs c.args.d.now) (unsigned_abs c.args.c.now)
  denominator_is = let e : c.from-3.result ≡ unsigned_abs c.args.d.now = omega (arith, ints) in λ i. e i / common_is i

pub nonzero_div-denominator : goal.nonzero_div-denominator
nonzero_div-denominator c =
    let a = (goal.at.nonzero_div-denominator c).After-from-3 in
    subst (λ n. 0 < n) (sym (common_is a)) (gcd_first_positive (unsigned_abs c.args.d.now) (unsigned_abs c.args.c.now) (some a))

module _ (c : After-from-5) where
  before : After-from-3
  before = (goal.at.nonzero_div-result c).After-from-3

  shared_is : c.gcd-shared.result ≡ gcd_of c.args.scale (reduced_denominator (unsigned_abs c.args.d.now) (unsigned_abs c.args.c.now))
  shared_is = divisor_is c.from-4.result (c.from-3.result / c.gcd-common.result) c.args.scale _ c.gcd-shared.result c.from-4.ensures (denominator_is (goal.at.nonzero_div-result c).After-from-3) c.gcd-shared.ensures

  value : c.from-5.result * (c.from-3.result / c.gcd-common.result / c.gcd-shared.result) ≡ common_multiple c.args.scale (reduced_denominator (unsigned_abs c.args.d.now) (unsigned_abs c.args.c.now))
  value = λ i. c.from-5.ensures i * (denominator_is (goal.at.nonzero_div-result c).After-from-3 i / shared_is i)

pub nonzero_div-result : goal.nonzero_div-result
nonzero_div-result c =
    let a = (goal.at.nonzero_div-result c).After-from-5 in
    subst (λ n. 0 < n) (sym (shared_is a)) (gcd_first_positive c.args.scale _ c.requires.scale)

pub returns-clause-value : goal.returns-clause-value
returns-clause-value c = value (goal.at.returns-clause-value c).After-from-5

pub returns-clause-positive : goal.returns-clause-positive
returns-clause-positive c =
    let a = (goal.at.returns-clause-positive c).After-from-5 in
    let b = (goal.at.returns-clause-positive c).After-from-3 in
    subst (λ n. 0 < n) (sym (value a)) (multiple_positive c.args.scale _ c.requires.scale (reduced_positive (unsigned_abs c.args.d.now) (unsigned_abs c.args.c.now) (some b)))
