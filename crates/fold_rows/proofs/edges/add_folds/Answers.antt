use Rattle.std.proofs.Common.{◌≡◌, ◌∙◌, sym, ap, subst, arith, ◌<◌, length, get_or, List, ℕ}
use Rattle.std.specs.Prelude.{AllPairs}
use Rattle.ntfe_model.specs.Charts.{spot_numbers}
use Rattle.ntfe_model.specs.declared.triangle.Triangle.{Triangle}
use Rattle.fold_rows.specs.Rows.{AreAround}
use Rattle.fold_rows.proofs.RowLemmas.{around_units, around_edge, around_fold, edge_added, edge_passed, from_more, from_end}
use Rattle.fold_rows.proofs.edges.add_folds.Goals as goal
use Rattle.fold_rows.proofs.edges.add_folds.Goals.{in-Some+in_ok-push, in_default}

-- the triples that were collected, as they are lent
near_lent : (ts us vs ws : List Triangle) (a : ℕ) → ts ≡ us → ws ≡ vs → AreAround ts a vs → AreAround us a ws
near_lent ts us vs ws a e f n = let P : List Triangle × List Triangle → Type 0 = λ p. AreAround p.0 a p.1 in subst P (λ t. (e t, sym f t)) n

pub fold_at-requires : goal.fold_at-requires
fold_at-requires c =
    record {
      units = around_units c.args.chart.now c.args.item.now.triangles c.as_slice-in-loop-b.result.now c.args.a c.requires.fine
          (near_lent c.as_slice.result.now c.args.item.now.triangles c.in_ok-near.near.items c.as_slice-in-loop-b.result.now c.args.a c.as_slice.ensures c.as_slice-in-loop-b.ensures.value c.in_ok-near.ensures);
    }

pub loop-b-preserved : goal.loop-b-preserved
loop-b-preserved c =
    let g = c.args.chart.now in
    let x = c.args.item.now in
    let a = c.args.a in
    let us = c.as_slice-in-loop-b.result.now in
    let ks = c.points-b-items.result.now in
    let ls = spot_numbers g in
    let n = c.loop-b.b-index in
    let e = c.points-b-items.ensures.value in
    let f = ap (λ ms. get_or ms n 0) e in
    let near = near_lent c.as_slice.result.now x.triangles c.in_ok-near.near.items us a c.as_slice.ensures c.as_slice-in-loop-b.ensures.value c.in_ok-near.ensures in
    let rising = subst (λ (ms : List ℕ). AllPairs (λ j k. j < k) ms) e c.points-b-items.ensures.rising in
    let l : n < length ls = (let m = ap length e in let t = c.loop-b-test.true in omega (arith, m, t)) in
    from_more g x a ls n c.args.folds.now.items c.loop-b.folds.items c.match-fold_at.folds.items rising l c.loop-b.invariant
    (elim c.match-fold_at.branch [
      | in-Some+in_ok-push w ↦
          let v = w.in-Some.ensures.value in
          edge_added g x c.requires.fine a (get_or ks n 0) (get_or ls n 0) c.loop-b.folds.items c.match-fold_at.folds.items w.in-Some.fold f
          (around_fold g x us a w.in-Some.fold near v.0) (v.1, v.2) w.in-Some.ensures.small (ap (λ u. u.items) w.folds-is ∙ w.in_ok-push.ensures.items)
      | in_default w ↦
          edge_passed g x a (get_or ks n 0) (get_or ls n 0) c.loop-b.folds.items c.match-fold_at.folds.items f
          (λ k. w.in_default.ensures.value (around_edge x.triangles us a (get_or ks n 0) near k)) (sym (ap (λ u. u.items) w.folds-is))
    ])

pub returns : goal.returns
returns c =
    let g = c.args.chart.now in
    let e = c.points-b-items.ensures.value in
    from_end g c.args.item.now c.requires.fine c.args.a c.loop-b.b-index c.args.folds.now.items c.loop-b.folds.items
    (let m = ap length e in let t = c.loop-b-test.false in omega (arith, m, t)) c.loop-b.invariant
