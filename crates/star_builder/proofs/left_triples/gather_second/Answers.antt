use Rattle.std.proofs.Common.{◌≡◌, ℕ, get_or, refl, sym, subst, arith}
use Rattle.std.specs.Prelude.{Contains}
use Rattle.star_builder.specs.FaceCharts.{patch, AreLeft}
use Rattle.star_builder.proofs.GatherLemmas.{gathers_next, gathers_end}
use Rattle.star_builder.proofs.left_triples.gather_second.Goals as goal

pub loop-b-preserved : goal.loop-b-preserved
loop-b-preserved c =
    let s = c.args.simplex.now in
    let n = c.loop-b.b-index in
    let Left : ℕ → ℕ → ℕ → Type 0 = AreLeft (patch c.args.chart.now.numbers.now c.args.chart.now.points.now) in
    gathers_next s (λ y i j k. (i ≡ c.args.a) × (j ≡ y) × Contains s k × Left i j k) n (get_or s n 0) c.args.triples.now.items c.loop-b.triples.items c.gather_third.new.triples.items
    (let t = c.loop-b-test.true in omega arith) 0 refl c.loop-b.invariant c.in_ok-gather_third.ensures

pub returns : goal.returns
returns c =
    let s = c.args.simplex.now in
    let Left : ℕ → ℕ → ℕ → Type 0 = AreLeft (patch c.args.chart.now.numbers.now c.args.chart.now.points.now) in
    gathers_end s (λ y i j k. (i ≡ c.args.a) × (j ≡ y) × Contains s k × Left i j k) c.loop-b.b-index (λ i j k. (i ≡ c.args.a) × Contains s j × Contains s k × Left i j k) c.args.triples.now.items c.loop-b.triples.items
    (let t = c.loop-b-test.false in omega arith)
    (λ i j k x m p. (p.0, subst (Contains s) (sym p.1) m, p.2, p.3))
    (λ i j k q. (j, q.1, (q.0, refl, q.2, q.3))) c.loop-b.invariant
