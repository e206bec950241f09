use Rattle.std.proofs.Common.{ℕ, Bool, ◌≡◌, ◌+◌, ◌∙◌, sym, ap, [], ◌∷◌, ◌++◌}
use Rattle.std.specs.Prelude.{◌&&◌}
use Rattle.ntfe_model.specs.Points.{is_tight, place_of_point}
use Rattle.lattice_points.proofs.FoundLemmas.{passes_next, fails_next}
use Rattle.two_faces.proofs.ListLemmas.{place_next}
use Rattle.two_faces.proofs.numbers.numbers_on_both.Goals as goal
use Rattle.two_faces.proofs.numbers.numbers_on_both.Goals.{then-is_on_both+in_ok-push, else-is_on_both}

pub loop-i-preserved : goal.loop-i-preserved
loop-i-preserved c =
    let xs = c.args.points.now in
    let m = c.args.m.now in
    let n = c.args.n.now in
    let i = c.loop-i.i in
    let test : ℕ → Bool = λ k. is_tight m (place_of_point xs k) && is_tight n (place_of_point xs k) in
    let e = place_next xs i c.index-points-i.result c.loop-i-test.true c.index-points-i.is in
    let v : test (1 + i) ≡ c.is_on_both.result = ap (λ x. is_tight m x && is_tight n x) e ∙ sym c.is_on_both.ensures.value in
    elim c.if-is_on_both.branch [
      | then-is_on_both+in_ok-push w ↦
          ap (λ u. u.items) w.numbers-is ∙ w.in_ok-push.ensures.items ∙ ap (λ ks. ks ++ (i + 1) ∷ []) c.loop-i.invariant ∙ passes_next test i (v ∙ w.if-is_on_both.true)
      | else-is_on_both w ↦
          ap (λ u. u.items) w.numbers-is ∙ c.loop-i.invariant ∙ fails_next test i (v ∙ w.if-is_on_both.false)
    ]
