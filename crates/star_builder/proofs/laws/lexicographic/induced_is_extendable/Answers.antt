use Rattle.star_builder.proofs.InducedHeights.{induced_extendable}
use Rattle.star_builder.proofs.laws.lexicographic.induced_is_extendable.Goals as goal

pub returns : goal.returns
returns c = induced_extendable
