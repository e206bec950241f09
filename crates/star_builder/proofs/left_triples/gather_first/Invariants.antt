use Rattle.std.proofs.Common.{◌≡◌}
use Rattle.std.specs.Prelude.{Contains}
use Rattle.star_builder.specs.Gathered.{Gathers}
use Rattle.star_builder.specs.FaceCharts.{patch, AreLeft}
use Rattle.star_builder.proofs.GatherLemmas.{GivenBy}
use Rattle.star_builder.proofs.left_triples.gather_first.Given as goal

abbrev pub invariant-loop-a : goal.invariant-loop-a
invariant-loop-a l =
    Gathers (GivenBy l.simplex (λ x i j k. (i ≡ x) × Contains l.simplex j × Contains l.simplex k × AreLeft (patch l.chart.numbers.now l.chart.points.now) i j k) l.a-index) l.initial.triples.items l.triples.items
