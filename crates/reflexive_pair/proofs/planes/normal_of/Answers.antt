use Rattle.std.proofs.Common.{◌∙◌}
use Rattle.ntfe_nums.specs.Vectors.{vector, cofactors}
use Rattle.reflexive_pair.proofs.planes.normal_of.Goals as goal

pub returns-clause-value : goal.returns-clause-value
returns-clause-value c =
    c.short_normal.ensures.value
    ∙ (λ t. cofactors (vector (c.edge-u.ensures.value t)) (vector (c.edge-v.ensures.value t)) (vector (c.edge-w.ensures.value t)))
