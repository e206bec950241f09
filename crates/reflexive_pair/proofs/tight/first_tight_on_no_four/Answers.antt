use Rattle.std.proofs.Common.{◌<◌, length, subst, arith, below_more}
use Rattle.ntfe_nums.specs.Vectors.{Vector}
use Rattle.ntfe_model.specs.Reflexive.{at, IsTightOnFour}
use Rattle.ntfe_model.proofs.TightLemmas.{read_at}
use Rattle.reflexive_pair.proofs.FirstLemmas.{all_tight}
use Rattle.reflexive_pair.proofs.tight.first_tight_on_no_four.Goals as goal

pub loop-i-preserved : goal.loop-i-preserved
loop-i-preserved c =
    let P : Vector → Type 0 = λ m. IsTightOnFour m c.args.list.now in
    let within : c.loop-i.i < length c.args.tips.now = omega arith in
    below_more (λ k. P (at c.args.tips.now k)) c.loop-i.i c.loop-i.invariant
    (subst P (read_at c.args.tips.now c.loop-i.i c.index-tips-i.result c.index-tips-i.is within) (c.is_tight_on_four.ensures.when_true c.if-not-is_tight_on_four.false))

pub returns : goal.returns
returns c = all_tight c.args.tips.now c.args.list.now (λ k lt. c.loop-i.invariant k (omega arith))
