use Rattle.std.proofs.Common.{◌≡◌}
use Rattle.std.specs.Prelude.{Contains}
use Rattle.star_builder.specs.Gathered.{Gathers}
use Rattle.star_builder.specs.FaceCharts.{patch, AreLeft}
use Rattle.star_builder.proofs.GatherLemmas.{GivenBy}
use Rattle.star_builder.proofs.left_triples.gather_second.Given as goal

abbrev pub invariant-loop-b : goal.invariant-loop-b
invariant-loop-b l =
    Gathers (GivenBy l.simplex (λ x i j k. (i ≡ l.a) × (j ≡ x) × Contains l.simplex k × AreLeft (patch l.chart.numbers.now l.chart.points.now) i j k) l.b-index) l.initial.triples.items l.triples.items
