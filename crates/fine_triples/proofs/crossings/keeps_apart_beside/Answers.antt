use Rattle.fine_triples.proofs.crossings.keeps_apart_beside.Goals as goal

pub returns : goal.returns
returns c = (
  (λ t. record { first = c.keep_apart.ensures.0 c.if-not-keep_apart.false; second = c.keep_apart-2.ensures.0 c.if-not-keep_apart-2.false; third = c.keep_apart-3.ensures.0 t }),
  (λ h. c.keep_apart-3.ensures.1 h.third),
)
