use Rattle.std.proofs.Common.{◌≡◌}
use Rattle.star_builder.specs.Gathered.{Gathers}
use Rattle.star_builder.specs.FaceCharts.{patch, AreLeft}
use Rattle.star_builder.proofs.GatherLemmas.{GivenBy}
use Rattle.star_builder.proofs.left_triples.gather_third.Given as goal

abbrev pub invariant-loop-c : goal.invariant-loop-c
invariant-loop-c l =
    Gathers (GivenBy l.simplex (λ x i j k. (i ≡ l.a) × (j ≡ l.b) × (k ≡ x) × AreLeft (patch l.chart.numbers.now l.chart.points.now) i j k) l.c-index) l.initial.triples.items l.triples.items
