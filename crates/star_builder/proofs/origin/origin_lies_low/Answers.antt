use Rattle.star_builder.proofs.OriginPlane.{origin_plane_low}
use Rattle.star_builder.proofs.origin.origin_lies_low.Goals as goal

pub returns : goal.returns
returns c = origin_plane_low
