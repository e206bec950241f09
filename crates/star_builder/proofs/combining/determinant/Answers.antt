use Rattle.std.proofs.Common.{◌∙◌, sym}
use Rattle.ntfe_nums.specs.Vectors.{dot}
use Rattle.ntfe_nums.proofs.DetLemmas.{det4-cofactors}
use Rattle.star_builder.proofs.Determinants.{same_short}
use Rattle.star_builder.proofs.combining.determinant.Goals as goal

pub returns-clause-value : goal.returns-clause-value
returns-clause-value c =
    same_short c.product.result c.product.ensures.size
    ∙ c.product.ensures.value
    ∙ (λ i. dot (c.normal-n.ensures.value i) c.args.d.now)
    ∙ sym (det4-cofactors c.args.a.now c.args.b.now c.args.c.now c.args.d.now)
