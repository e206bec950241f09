use Rattle.fine_triples.proofs.conditions.is_closed_triple.Goals as goal

pub returns : goal.returns
returns c = (
  (λ t. record { first = c.is_closed.ensures.0 c.if-not-is_closed.false; second = c.is_closed-2.ensures.0 c.if-not-is_closed-2.false; third = c.is_closed-3.ensures.0 t }),
  (λ h. c.is_closed-3.ensures.1 h.third),
)
