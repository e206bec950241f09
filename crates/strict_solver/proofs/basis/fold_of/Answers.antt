use Rattle.std.proofs.Common.{◌-ℤ◌, ◌+ℤ◌, ◌^◌, ◌<◌, ◌∙◌, arith, sym, subst, unsigned_abs}
use Rattle.strict_solver.proofs.Words.{fold_fits-first, fold_fits, fold_word, fold_size, product_passed}
use Rattle.strict_solver.proofs.basis.fold_of.Goals as goal

pub overflow_sub-result : goal.overflow_sub-result
overflow_sub-result c = fold_fits-first c.args.c c.args.d c.product.result c.product.result c.requires.c c.requires.d c.product.ensures.size c.product.ensures.size

pub overflow_sub-result-2 : goal.overflow_sub-result-2
overflow_sub-result-2 c = fold_fits c.args.c c.args.d c.product.result c.product-2.result c.requires.c c.requires.d c.product.ensures.size c.product-2.ensures.size

pub returns-clause-value : goal.returns-clause-value
returns-clause-value c =
    fold_word c.args.c c.args.d c.product.result c.product-2.result c.requires.c c.requires.d c.product.ensures.size c.product-2.ensures.size
    ∙ (λ t. c.args.c +ℤ c.args.d -ℤ c.product.ensures.value t -ℤ c.product-2.ensures.value t)
    ∙ (λ t. c.args.c +ℤ c.args.d -ℤ product_passed c.args.fold.now.alpha c.args.a (let h = c.requires.alpha in omega arith) c.requires.a t
    -ℤ product_passed c.args.fold.now.beta c.args.b (let h = c.requires.beta in omega arith) c.requires.b t)

pub returns-clause-size : goal.returns-clause-size
returns-clause-size c =
    subst (λ z. unsigned_abs z < 2 ^ 62) (sym (fold_word c.args.c c.args.d c.product.result c.product-2.result c.requires.c c.requires.d c.product.ensures.size c.product-2.ensures.size))
    (fold_size c.args.c c.args.d c.product.result c.product-2.result c.requires.c c.requires.d c.product.ensures.size c.product-2.ensures.size)
