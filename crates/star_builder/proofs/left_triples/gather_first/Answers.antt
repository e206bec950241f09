use Rattle.std.proofs.Common.{◌≡◌, ℕ, List, get_or, refl, ap, sym, subst, arith}
use Rattle.std.specs.Prelude.{Contains}
use Rattle.ntfe_model.specs.Charts.{IsOf}
use Rattle.star_builder.specs.Gathered.{Gathers}
use Rattle.star_builder.specs.FaceCharts.{patch, AreLeft}
use Rattle.star_builder.proofs.GatherLemmas.{gathers_none, gathers_next, gathers_end}
use Rattle.star_builder.proofs.left_triples.gather_first.Goals as goal
use Rattle.star_builder.proofs.left_triples.gather_first.Goals.{then-has+in_ok-gather_second, else-has}

pub loop-a-preserved : goal.loop-a-preserved
loop-a-preserved c =
    let s = c.args.simplex.now in
    let n = c.loop-a.a-index in
    let x = get_or s n 0 in
    let old = c.loop-a.triples.items in
    let h = patch c.args.chart.now.numbers.now c.args.chart.now.points.now in
    let P : ℕ → ℕ → ℕ → ℕ → Type 0 = λ y i j k. (i ≡ y) × Contains s j × Contains s k × AreLeft h i j k in
    let kept : Gathers (P x) old c.if-has.triples.items = elim c.if-has.branch [
      | then-has+in_ok-gather_second w ↦ subst (λ (ts : List (List ℕ)). Gathers (P x) old ts) (sym (ap (λ u. u.items) w.triples-is)) w.in_ok-gather_second.ensures
      | else-has w ↦
          subst (λ (ts : List (List ℕ)). Gathers (P x) old ts) (sym (ap (λ u. u.items) w.triples-is))
          (gathers_none (P x) old (λ i j k p. c.has.ensures.when_false w.if-has.false (subst (IsOf h) p.0 p.3.points.0)))
    ] in
    gathers_next s P n x c.args.triples.now.items old c.if-has.triples.items (let t = c.loop-a-test.true in omega arith) 0 refl c.loop-a.invariant kept

pub returns : goal.returns
returns c =
    let s = c.args.simplex.now in
    let h = patch c.args.chart.now.numbers.now c.args.chart.now.points.now in
    gathers_end s (λ y i j k. (i ≡ y) × Contains s j × Contains s k × AreLeft h i j k) c.loop-a.a-index (λ i j k. Contains s i × Contains s j × Contains s k × AreLeft h i j k) c.args.triples.now.items c.loop-a.triples.items
    (let t = c.loop-a-test.false in omega arith)
    (λ i j k x m p. (subst (Contains s) (sym p.0) m, p.1, p.2, p.3))
    (λ i j k q. (i, q.0, (refl, q.1, q.2, q.3))) c.loop-a.invariant
