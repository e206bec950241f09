use Rattle.ntfe_run.proofs.pieces.write_other_facet.Goals as goal

pub returns-clause-text : goal.returns-clause-text
returns-clause-text g c = rw (← c.from.ensures, ← c.from-2.ensures, ← c.from-3.ensures, ← c.from-4.ensures) c.write_fragments.ensures.text
