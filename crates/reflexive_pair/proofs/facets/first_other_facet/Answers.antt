use Rattle.reflexive_pair.proofs.FourLemmas.{other_facet_found}
use Rattle.reflexive_pair.proofs.facets.first_other_facet.Goals as goal

pub returns : goal.returns
returns c = other_facet_found (record { vertices = c.args.vertices.now; dual = c.args.dual.now }) c.first_four.result c.first_four.ensures
