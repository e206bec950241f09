use Rattle.std.proofs.Common.{◌<◌, length, subst, arith, negsuc, ◌≤ℤ◌, below_more}
use Rattle.ntfe_nums.specs.Vectors.{Vector, dot}
use Rattle.ntfe_model.specs.Reflexive.{at}
use Rattle.ntfe_model.proofs.TightLemmas.{read_at}
use Rattle.reflexive_pair.proofs.products.first_low_of.Goals as goal

pub loop-j-preserved : goal.loop-j-preserved
loop-j-preserved c =
    let P : Vector → Type 0 = λ m. negsuc 0 ≤ℤ dot m c.args.v.now in
    let within : c.loop-j.j < length c.args.dual.now = omega arith in
    below_more (λ k. P (at c.args.dual.now k)) c.loop-j.j c.loop-j.invariant
    (subst P (read_at c.args.dual.now c.loop-j.j c.index-dual-j.result c.index-dual-j.is within) (c.is_low.ensures.when_false c.if-is_low.false))
