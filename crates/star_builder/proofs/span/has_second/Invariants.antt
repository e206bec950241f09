use Rattle.std.proofs.Common.{◌≡◌, take, pos}
use Rattle.std.specs.Prelude.{All}
use Rattle.ntfe_model.specs.Flats.{flat_of, area_of_flats}
use Rattle.ntfe_model.specs.Points.{place_of_point}
use Rattle.star_builder.proofs.span.has_second.Given as goal

abbrev pub invariant-loop-number : goal.invariant-loop-number
invariant-loop-number l = All (λ j. All (λ k. area_of_flats l.a (flat_of l.axes (place_of_point l.points j)) (flat_of l.axes (place_of_point l.points k)) ≡ pos 0) l.numbers) (take l.number-index l.numbers)
