use Rattle.std.proofs.Common.{◌≡◌, ◌∙◌, ℤ, ◌-ℤ◌, ◌*ℤ◌, arith, subst}
use Rattle.std.specs.Prelude.{IfSome}
use Rattle.strict_solver.proofs.ShortRows.{word64}
use Rattle.strict_solver.proofs.Words.{word30}
use Rattle.strict_solver.proofs.basis.mixed.Goals as goal

pub returns-clause-value : goal.returns-clause-value
returns-clause-value c =
    let a = c.args in
    let r = c.requires in
    let P : ℤ → Type 0 = λ y. IfSome c.quotient.result (λ z. a.divisor.now.number *ℤ z ≡ y) in
    subst P
    (word64 c.difference.result (let s = c.difference.ensures.size in omega arith)
    ∙ c.difference.ensures.value
    ∙ (λ t. word30 a.times r.times t *ℤ word30 a.number r.number t -ℤ word30 a.factor r.factor t *ℤ word30 a.other r.other t))
    c.quotient.ensures.product
