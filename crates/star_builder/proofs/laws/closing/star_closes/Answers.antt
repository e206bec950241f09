use Rattle.star_builder.proofs.ClosedRidges.{ridge_closes}
use Rattle.star_builder.proofs.Covering.{facet_has_member}
use Rattle.star_builder.proofs.laws.closing.star_closes.Goals as goal

pub returns-clause-facets : goal.returns-clause-facets
returns-clause-facets c = λ g w order star s all is facet number. facet_has_member g w order star s all is facet number

pub returns-clause-ridges : goal.returns-clause-ridges
returns-clause-ridges c = λ g w order star s all is members h without has. ridge_closes g w order star s all is members h without has
