use Rattle.std.proofs.Common.{◌≡◌, filter}
use Rattle.std.specs.Prelude.{◌&&◌}
use Rattle.std.specs.List.{range_with_len}
use Rattle.ntfe_model.specs.Points.{is_tight, place_of_point}
use Rattle.two_faces.proofs.numbers.numbers_on_both.Given as goal

abbrev pub invariant-loop-i : goal.invariant-loop-i
invariant-loop-i l = l.numbers.items ≡ filter (λ k. is_tight l.m (place_of_point l.points k) && is_tight l.n (place_of_point l.points k)) (range_with_len 1 l.i)
