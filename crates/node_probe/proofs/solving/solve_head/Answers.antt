use Rattle.std.proofs.Common.{◌≡◌, ◌∙◌, sym, ap, subst, arith, ℕ, ℤ, List, length}
use Rattle.ntfe_model.specs.declared.nogood.Fold.{Fold}
use Rattle.strict_solver.specs.Starts.{AreFoldsOver}
use Rattle.ntfe_model.specs.Keys.{IsClass}
use Rattle.node_probe.proofs.KeyLemmas.{left_over}
use Rattle.node_probe.proofs.RowLemmas.{rows_within}
use Rattle.ntfe_model.proofs.Counts.{faces_few}
use Rattle.node_probe.proofs.Refuting.{refutation}
use Rattle.node_probe.proofs.Solutions.{folds_over, class_of, not_refuted, not_refuted_wide, solved_infeasible, solved_feasible, solved_wide}
use Rattle.node_probe.proofs.solving.solve_head.Goals as goal

pub solve-requires-clause-folds : goal.solve-requires-clause-folds
solve-requires-clause-folds c =
    let P : ℕ × List Fold → Type 0 = λ t. AreFoldsOver t.0 t.1 in
    subst P (λ i. (sym c.requires.columns i, sym c.as_slice-2.ensures.value i))
    (folds_over c.args.geometry.now c.requires.shape c.args.key.now c.args.rows.now.folds.items c.args.rows.now.faces.items c.requires.rows c.requires.key.at_most)

pub certificate-requires-clause-few : goal.certificate-requires-clause-few
certificate-requires-clause-few c =
    let few = faces_few c.args.geometry.now c.requires.shape in
    let l = c.requires.key.at_most in
    omega (arith, few, l)

pub certificate-requires-clause-within : goal.certificate-requires-clause-within
certificate-requires-clause-within c = rows_within c.args.geometry.now c.args.key.now c.args.rows.now.folds.items c.args.rows.now.faces.items c.requires.rows

pub returns-in_ok-nogood-in-Infeasible-clause-solution :
    goal.returns-in_ok-nogood-in-Infeasible-clause-solution
returns-in_ok-nogood-in-Infeasible-clause-solution c =
    let g = c.args.geometry.now in
    let rs = c.args.rows.now.folds.items in
    let ms = c.multipliers.result.now in
    let h = solved_infeasible c.args.tableau.now.columns (length g.points) c.args.width c.as_slice-2.result.now rs c.solve.new.self.answer ms
    c.requires.columns c.as_slice-2.ensures.value c.multipliers.ensures c.in-Infeasible.ensures.answer c.in-Infeasible.ensures.meaning in
    refutation g c.requires.shape c.args.key.now c.requires.key.at_most c.requires.within.0 rs c.args.rows.now.faces.items c.requires.rows ms h.1 c.in_ok-nogood-in-Infeasible.nogood
    c.in_ok-nogood-in-Infeasible.ensures c.args.width h.0

pub returns-in_ok-heights-in-Feasible-clause-solution :
    goal.returns-in_ok-heights-in-Feasible-clause-solution
returns-in_ok-heights-in-Feasible-clause-solution c =
    let g = c.args.geometry.now in
    let key = c.args.key.now in
    let rs = c.args.rows.now.folds.items in
    let ws = c.heights-in-Feasible.result.now in
    let h = solved_feasible c.args.tableau.now.columns (length g.points) c.args.width c.as_slice-2.result.now rs c.solve.new.self.answer ws
    c.requires.columns c.as_slice-2.ensures.value c.heights-in-Feasible.ensures c.in-Feasible.ensures.answer c.in-Feasible.ensures.meaning in
    let whole : length key ≡ length g.faces = sym (ap length (c.as_slice.ensures ∙ c.key.view_is)) ∙ c.if-not-whole.false ∙ ap length c.faces.ensures.value in
    let k = class_of g c.requires.shape key rs c.args.rows.now.faces.items c.requires.rows c.requires.within.0 c.requires.within.1 whole c.args.width ws h.0 in
    let P : List ℤ → Type 0 = IsClass g key in
    (whole, subst P (sym (c.from_vec.ensures ∙ c.in_ok-heights-in-Feasible.ensures.items)) k)

pub returns-then-not-whole-clause-solution : goal.returns-then-not-whole-clause-solution
returns-then-not-whole-clause-solution c =
    let g = c.args.geometry.now in
    let key = c.args.key.now in
    let rs = c.args.rows.now.folds.items in
    let e = ap length (c.as_slice.ensures ∙ c.key.view_is) in
    let f = ap length c.faces.ensures.value in
    let h = solved_feasible c.args.tableau.now.columns (length g.points) c.args.width c.as_slice-2.result.now rs c.solve.new.self.answer c.heights.result.now c.requires.columns
    c.as_slice-2.ensures.value c.heights.ensures c.in-Feasible.ensures.answer c.in-Feasible.ensures.meaning in (
      (left_over (length c.as_slice.result.now) (length c.faces.result.now) (length key) (length g.faces) e f c.requires.key.at_most c.if-not-whole.true, c.requires.within.1),
      not_refuted g c.requires.shape key rs c.args.rows.now.faces.items c.requires.rows c.args.width c.heights.result.now h.0,
    )

pub returns-in_default-clause-solution : goal.returns-in_default-clause-solution
returns-in_default-clause-solution c =
    let g = c.args.geometry.now in
    let key = c.args.key.now in
    let rs = c.args.rows.now.folds.items in
    let e = ap length (c.as_slice.ensures ∙ c.key.view_is) in
    let f = ap length c.faces.ensures.value in
    let h = solved_wide c.args.tableau.now.columns (length g.points) c.args.width c.as_slice-2.result.now rs c.solve.new.self.answer _ _ c.requires.columns c.as_slice-2.ensures.value c.in-Wide.ensures.answer in (
      (left_over (length c.as_slice.result.now) (length c.faces.result.now) (length key) (length g.faces) e f c.requires.key.at_most c.if-whole.false, c.requires.within.1),
      not_refuted_wide g c.requires.shape key rs c.args.rows.now.faces.items c.requires.rows c.args.width _ _ h,
    )
