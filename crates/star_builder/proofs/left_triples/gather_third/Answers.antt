use Rattle.std.proofs.Common.{◌≡◌, ◌∙◌, ℕ, List, get_or, refl, ap, sym, subst, arith}
use Rattle.std.specs.Prelude.{Contains}
use Rattle.star_builder.specs.Gathered.{Gathers}
use Rattle.star_builder.specs.FaceCharts.{patch, AreLeft}
use Rattle.star_builder.proofs.GatherLemmas.{gathers_none, gathers_one, gathers_next, gathers_end}
use Rattle.star_builder.proofs.left_triples.gather_third.Goals as goal
use Rattle.star_builder.proofs.left_triples.gather_third.Goals.{then-is_left+in_ok-push, else-is_left}

pub loop-c-preserved : goal.loop-c-preserved
loop-c-preserved c =
    let s = c.args.simplex.now in
    let n = c.loop-c.c-index in
    let x = get_or s n 0 in
    let old = c.loop-c.triples.items in
    let Left : ℕ → ℕ → ℕ → Type 0 = AreLeft (patch c.args.chart.now.numbers.now c.args.chart.now.points.now) in
    let P : ℕ → ℕ → ℕ → ℕ → Type 0 = λ y i j k. (i ≡ c.args.a) × (j ≡ c.args.b) × (k ≡ y) × Left i j k in
    let kept : Gathers (P x) old c.if-is_left.triples.items = elim c.if-is_left.branch [
      | then-is_left+in_ok-push w ↦
          gathers_one (P x) c.args.a c.args.b x old c.if-is_left.triples.items (ap (λ u. u.items) w.triples-is ∙ w.in_ok-push.ensures.items)
          (refl, refl, refl, c.is_left.ensures.when_true w.if-is_left.true) (λ i j k p. (p.0, p.1, p.2))
      | else-is_left w ↦
          subst (λ (ts : List (List ℕ)). Gathers (P x) old ts) (sym (ap (λ u. u.items) w.triples-is))
          (gathers_none (P x) old (λ i j k p. c.is_left.ensures.when_false w.if-is_left.false
          (subst (λ (u : ℕ × ℕ × ℕ). Left u.0 u.1 u.2) (λ t. (p.0 t, p.1 t, p.2 t)) p.3)))
    ] in
    gathers_next s P n x c.args.triples.now.items old c.if-is_left.triples.items (let t = c.loop-c-test.true in omega arith) 0 refl c.loop-c.invariant kept

pub returns : goal.returns
returns c =
    let s = c.args.simplex.now in
    let Left : ℕ → ℕ → ℕ → Type 0 = AreLeft (patch c.args.chart.now.numbers.now c.args.chart.now.points.now) in
    let P : ℕ → ℕ → ℕ → ℕ → Type 0 = λ y i j k. (i ≡ c.args.a) × (j ≡ c.args.b) × (k ≡ y) × Left i j k in
    gathers_end s P c.loop-c.c-index (λ i j k. (i ≡ c.args.a) × (j ≡ c.args.b) × Contains s k × Left i j k) c.args.triples.now.items c.loop-c.triples.items
    (let t = c.loop-c-test.false in omega arith)
    (λ i j k x m p. (p.0, p.1, subst (Contains s) (sym p.2) m, p.3))
    (λ i j k q. (k, q.2, (q.0, q.1, refl, q.3))) c.loop-c.invariant
