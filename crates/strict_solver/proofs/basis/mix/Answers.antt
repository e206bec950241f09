use Rattle.std.proofs.Common.{◌≡◌, ◌^◌, ◌<◌, ℤ, ◌-ℤ◌, ◌*ℤ◌, ◌∙◌, ap, sym, subst, arith, length-set, unsigned_abs, to_z, of_z, w64}
use Rattle.strict_solver.specs.Rows.{number}
use Rattle.strict_solver.specs.Mixing.{IsMixed}
use Rattle.strict_solver.proofs.Rows.{set_next, set_rest}
use Rattle.strict_solver.proofs.Words.{set_small, word30}
use Rattle.strict_solver.proofs.PuttingIn.{mixed_all}
use Rattle.strict_solver.proofs.basis.mix.Goals as goal

pub loop-k-preserved : goal.loop-k-preserved
loop-k-preserved c =
    let k = c.loop-k.k in
    let row = c.loop-k.row in
    let old = c.args.row.now in
    let line = c.args.line.now in
    let d = c.args.divisor.now.number in
    let times = to_z w64 (of_z w64 c.args.times) in
    let factor = to_z w64 (of_z w64 c.args.factor) in
    let i = c.loop-k.invariant in
    let n = c.in-Some.number in
    let new = to_z w64 (of_z w64 n) in
    let is : to_z w64 (of_z w64 n) ≡ n = word30 n c.in-Some.ensures.small in
    let quotient : d *ℤ to_z w64 (of_z w64 n) ≡ to_z w64 (of_z w64 c.args.times) *ℤ number old k -ℤ to_z w64 (of_z w64 c.args.factor) *ℤ number line k =
    ap (λ z. d *ℤ z) is
    ∙ c.in-Some.ensures.value
    ∙ (λ t. to_z w64 (of_z w64 c.args.times) *ℤ word30 (number row k) (i.small k) t -ℤ to_z w64 (of_z w64 c.args.factor) *ℤ word30 (number line k) (c.requires.line.each k) t)
    ∙ ap (λ z. times *ℤ z -ℤ factor *ℤ number line k) (i.above k (omega arith)) in
    record {
      count = length-set row k new ∙ i.count;
      below = set_next row k new (λ j z. d *ℤ z ≡ times *ℤ number old j -ℤ factor *ℤ number line j) (omega arith) quotient i.below;
      small = set_small row k new (subst (λ z. unsigned_abs z < 2 ^ 30) (sym is) c.in-Some.ensures.small) i.small;
      above = set_rest row k new (λ j z. z ≡ number old j) i.above;
    }

pub returns-clause-answer : goal.returns-clause-answer
returns-clause-answer c =
    let i = c.loop-k.invariant in
    let d = c.args.divisor.now.number in
    let P : ℤ → Type 0 = λ z. IsMixed d z c.args.factor c.args.row.now c.args.line.now c.loop-k.row in
    let Q : ℤ → Type 0 = λ z. IsMixed d (to_z w64 (of_z w64 c.args.times)) z c.args.row.now c.args.line.now c.loop-k.row in
    subst P (word30 c.args.times c.requires.times)
    (subst Q (word30 c.args.factor c.requires.factor)
    (mixed_all d (to_z w64 (of_z w64 c.args.times)) (to_z w64 (of_z w64 c.args.factor)) c.args.row.now c.args.line.now c.loop-k.row c.loop-k.k i.count c.requires.count (omega arith) i.below i.small))
