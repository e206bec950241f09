use Rattle.ntfe_run.proofs.messages.PairFaultMessage.write.Goals as goal

pub returns-in-NotFacet-clause-text : goal.returns-in-NotFacet-clause-text
returns-in-NotFacet-clause-text g c = rw (c.in-NotFacet.is, ← c.from-in-NotFacet.ensures) c.write_fragments-in-NotFacet.ensures.text
