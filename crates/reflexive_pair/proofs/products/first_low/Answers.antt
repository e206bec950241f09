use Rattle.std.proofs.Common.{◌<◌, length, subst, arith, below_more}
use Rattle.ntfe_nums.specs.Vectors.{Vector}
use Rattle.ntfe_model.specs.Reflexive.{at}
use Rattle.reflexive_pair.specs.Firsts.{IsHighBelow, IsFirstLow}
use Rattle.ntfe_model.proofs.TightLemmas.{read_at}
use Rattle.reflexive_pair.proofs.FirstLemmas.{no_low_product, low_least}
use Rattle.reflexive_pair.proofs.products.first_low.Goals as goal

pub returns-in-Some : goal.returns-in-Some
returns-in-Some c =
    let P : Vector → Type 0 = λ v. IsFirstLow v c.args.dual.now c.in-Some.j in
    let within : c.loop-i.i < length c.args.vertices.now = omega arith in
    let low = subst P (read_at c.args.vertices.now c.loop-i.i c.index-vertices-i.result c.index-vertices-i.is within) c.in-Some.ensures in
    (within, low.within, low_least (record { vertices = c.args.vertices.now; dual = c.args.dual.now }) c.loop-i.i c.in-Some.j within low c.loop-i.invariant)

pub loop-i-preserved : goal.loop-i-preserved
loop-i-preserved c =
    let P : Vector → Type 0 = λ v. IsHighBelow v c.args.dual.now (length c.args.dual.now) in
    let within : c.loop-i.i < length c.args.vertices.now = omega arith in
    below_more (λ k. P (at c.args.vertices.now k)) c.loop-i.i c.loop-i.invariant
    (subst P (read_at c.args.vertices.now c.loop-i.i c.index-vertices-i.result c.index-vertices-i.is within) c.in_default.ensures)

pub returns : goal.returns
returns c =
    no_low_product (record { vertices = c.args.vertices.now; dual = c.args.dual.now }) (λ k lt. c.loop-i.invariant k (omega arith))
