use Rattle.std.proofs.Common.{◌≡◌, ◌∙◌, ap, subst, true, ℕ, List, length}
use Rattle.std.proofs.lemmas.Result.{IfOk-weaker}
use Rattle.ntfe_model.specs.Keys.{IsInner, IsRefutedAt}
use Rattle.ntfe_model.specs.declared.nogood.Fold.{Fold}
use Rattle.node_probe.specs.Lifted.{AreLifted}
use Rattle.node_probe.proofs.KeyLemmas.{left_over}
use Rattle.node_probe.proofs.Lifted.{lifted_not_refuted}
use Rattle.node_probe.proofs.solving.is_lifted.Goals as goal

pub returns-clause-solution : goal.returns-clause-solution
returns-clause-solution c =
    let g = c.args.geometry.now in
    let key = c.args.key.now in
    let rs = c.args.rows.now.folds.items in
    let m = ap length (c.as_slice.ensures ∙ c.key.view_is) in
    let n = ap length c.faces.ensures.value in
    let at_most = c.requires.key.at_most in
    let points = ap length c.points.ensures.value in
    let P : ℕ × List Fold → Type 0 = λ t. AreLifted t.0 t.1 in
    IfOk-weaker c.lift.result (λ b. b ≡ true → AreLifted (length c.points.result.now) c.as_slice-2.result.now) (λ b. b ≡ true → (width : ℕ) → IsInner g key × ¬ (IsRefutedAt g width key))
    (λ b lifts e width. (
      (left_over (length c.as_slice.result.now) (length c.faces.result.now) (length key) (length g.faces) m n at_most c.if-as_slice-faces.false, c.requires.within.1),
      lifted_not_refuted g c.requires.shape key rs c.args.rows.now.faces.items c.requires.rows at_most (subst P (λ i. (points i, c.as_slice-2.ensures.value i)) (lifts e)) width,
    ))
    c.lift.ensures.lifted
