use Rattle.std.proofs.Common.{◌-ℤ◌, ◌^◌, ◌<◌, ◌∙◌, arith, sym, subst, unsigned_abs}
use Rattle.std.proofs.lemmas.Int.{ints}
use Rattle.strict_solver.proofs.Words.{difference_word, product_passed}
use Rattle.strict_solver.proofs.basis.difference.Goals as goal

pub returns-clause-value : goal.returns-clause-value
returns-clause-value c =
    difference_word c.product.result c.product-2.result c.product.ensures.size c.product-2.ensures.size
    ∙ (λ t. c.product.ensures.value t -ℤ c.product-2.ensures.value t)
    ∙ (λ t. product_passed c.args.a c.args.b c.requires.first c.requires.second t -ℤ product_passed c.args.c c.args.d c.requires.third c.requires.fourth t)

pub returns-clause-size : goal.returns-clause-size
returns-clause-size c =
    let x = c.product.ensures.size in
    let y = c.product-2.ensures.size in
    subst (λ z. unsigned_abs z < 2 ^ 62) (sym (difference_word c.product.result c.product-2.result x y)) (let a : unsigned_abs (c.product.result -ℤ c.product-2.result) < 2 ^ 62 = omega (arith, ints) in a)
