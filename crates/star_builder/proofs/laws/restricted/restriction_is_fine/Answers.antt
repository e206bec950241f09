use Rattle.star_builder.proofs.FineRestrictions.{restrictions_fine}
use Rattle.star_builder.proofs.laws.restricted.restriction_is_fine.Goals as goal

pub returns : goal.returns
returns c = restrictions_fine
