use Rattle.std.specs.Prelude.{Contains}
use Rattle.star_builder.specs.Gathered.{Gathers}
use Rattle.star_builder.specs.FaceCharts.{patch, AreLeft}
use Rattle.star_builder.proofs.GatherLemmas.{GivenBy}
use Rattle.star_builder.proofs.left_triples.gather_all.Given as goal

abbrev pub invariant-loop-simplex : goal.invariant-loop-simplex
invariant-loop-simplex l =
    Gathers (GivenBy l.star (λ x i j k. Contains x i × Contains x j × Contains x k × AreLeft (patch l.chart.numbers.now l.chart.points.now) i j k) l.simplex-index) l.initial.triples.items l.triples.items
