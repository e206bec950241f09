use Rattle.star_builder.proofs.FacetRidges.{facet_meets}
use Rattle.star_builder.proofs.SomeFaces.{facet_has_face, has_face}
use Rattle.star_builder.proofs.laws.facing.facets_meet.Goals as goal

pub returns-clause-meet : goal.returns-clause-meet
returns-clause-meet c = facet_meets

pub returns-clause-faces : goal.returns-clause-faces
returns-clause-faces c = facet_has_face

pub returns-clause-some : goal.returns-clause-some
returns-clause-some c = has_face
