use Rattle.std.proofs.Common.{◌^◌, ◌<◌, sym, subst, unsigned_abs}
use Rattle.strict_solver.proofs.Words.{product_word, product_size}
use Rattle.strict_solver.proofs.basis.product.Goals as goal

pub returns-clause-value : goal.returns-clause-value
returns-clause-value c = product_word c.args.a c.args.b c.requires.first c.requires.second

pub returns-clause-size : goal.returns-clause-size
returns-clause-size c = subst (λ z. unsigned_abs z < 2 ^ 60) (sym (product_word c.args.a c.args.b c.requires.first c.requires.second)) (product_size c.args.a c.args.b c.requires.first c.requires.second)
