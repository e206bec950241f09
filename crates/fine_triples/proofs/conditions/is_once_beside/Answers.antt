use Rattle.std.proofs.Common.{refl}
use Rattle.fine_triples.proofs.conditions.is_once_beside.Goals as goal

pub returns-then-is_same : goal.returns-then-is_same
returns-then-is_same c = ((λ t. record { first = λ s. c.is_same.ensures.0 c.if-is_same.true; second = λ s. c.is_same.ensures.0 c.if-is_same.true; third = λ s. c.is_same.ensures.0 c.if-is_same.true }), (λ h. refl))
