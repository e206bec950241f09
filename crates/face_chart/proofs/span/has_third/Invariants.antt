use Rattle.std.proofs.Common.{◌≡◌, take, pos}
use Rattle.std.specs.Prelude.{All}
use Rattle.ntfe_model.specs.Flats.{flat_of, area_of_flats}
use Rattle.face_chart.specs.Tables.{place_at}
use Rattle.face_chart.proofs.span.has_third.Given as goal

abbrev pub invariant-loop-number : goal.invariant-loop-number
invariant-loop-number l = All (λ k. area_of_flats l.a l.b (flat_of l.axes (place_at l.places k)) ≡ pos 0) (take l.number-index l.numbers)
