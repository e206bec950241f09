use Rattle.std.proofs.Common.{◌∙◌, sym, ap}
use Rattle.std.specs.Cmp.Rules.{signed_items}
use Rattle.ntfe_nums.specs.Vectors.{vector}
use Rattle.reflexive_pair.proofs.repeats.is_same.Goals as goal

pub returns-clause-when_true : goal.returns-clause-when_true
returns-clause-when_true c = λ t.
    sym c.coordinates.ensures.value
    ∙ ap vector ((signed_items c.coordinates.result.now c.coordinates-2.result.now).0 (sym c.eq.ensures ∙ t))
    ∙ c.coordinates-2.ensures.value
