use Rattle.star_builder.proofs.FineStars.{extended_star, extendable_induced}
use Rattle.star_builder.proofs.RestrictedTriples.{restriction_triples}
use Rattle.star_builder.proofs.StarListing.{push_order}
use Rattle.star_builder.proofs.laws.extendable.extendable_is_induced.Goals as goal

pub returns : goal.returns
returns c = record { star = extended_star; restriction = restriction_triples; order = push_order; induced = extendable_induced }
