use Rattle.std.proofs.Common.{ℕ, [], get_or, refl, arith}
use Rattle.std.specs.Prelude.{Contains}
use Rattle.ntfe_model.specs.Stars.{AreTogether}
use Rattle.star_builder.specs.FaceCharts.{patch, AreLeft}
use Rattle.star_builder.proofs.GatherLemmas.{gathers_next, gathers_end}
use Rattle.star_builder.proofs.left_triples.gather_all.Goals as goal

pub loop-simplex-preserved : goal.loop-simplex-preserved
loop-simplex-preserved c =
    let star = c.args.star.now in
    let n = c.loop-simplex.simplex-index in
    let Left : ℕ → ℕ → ℕ → Type 0 = AreLeft (patch c.args.chart.now.numbers.now c.args.chart.now.points.now) in
    gathers_next star (λ s i j k. Contains s i × Contains s j × Contains s k × Left i j k) n (get_or star n []) c.args.triples.now.items c.loop-simplex.triples.items c.gather_first.new.triples.items
    c.loop-simplex-test.true [] refl c.loop-simplex.invariant c.in_ok-gather_first.ensures

pub returns : goal.returns
returns c =
    let star = c.args.star.now in
    let Left : ℕ → ℕ → ℕ → Type 0 = AreLeft (patch c.args.chart.now.numbers.now c.args.chart.now.points.now) in
    gathers_end star (λ s i j k. Contains s i × Contains s j × Contains s k × Left i j k) c.loop-simplex.simplex-index (λ i j k. AreTogether star i j k × Left i j k) c.args.triples.now.items c.loop-simplex.triples.items
    (let t = c.loop-simplex-test.false in omega arith)
    (λ i j k s m p. ((s, m, p.0, p.1, p.2), p.3))
    (λ i j k q. let t = q.0 in (t.0, t.1, (t.2, t.3, t.4, q.1))) c.loop-simplex.invariant
