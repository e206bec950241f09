use Rattle.star_builder.specs.Facets.{AreMasks}
use Rattle.star_builder.proofs.facets.masks_of.Given as goal

abbrev pub invariant-loop-point : goal.invariant-loop-point
invariant-loop-point l = AreMasks l.points l.dual l.point-index l.masks.items
