use Rattle.std.proofs.Common.{◌≡◌, sym, ap, subst, arith, ℕ, ◌<◌, ◌≤◌, List, [], length, get_or}
use Rattle.std.specs.Prelude.{All, AllPairs}
use Rattle.ntfe_model.specs.Charts.{spot_numbers}
use Rattle.ntfe_model.specs.Choices.{AreFolds, IsSmallFold}
use Rattle.ntfe_model.specs.declared.nogood.Fold.{Fold}
use Rattle.fold_rows.specs.Rows.{AddsFolds}
use Rattle.fold_rows.proofs.RowLemmas.{upto_more, upto_end, listed_exactly_regular}
use Rattle.fold_rows.proofs.edges.folds.Goals as goal

pub loop-a-preserved : goal.loop-a-preserved
loop-a-preserved c =
    let g = c.args.chart.now in
    let x = c.args.item.now in
    let ls = spot_numbers g in
    let n = c.loop-a.a-index in
    let e = c.points-a-items.ensures.value in
    let rising = subst (λ (ms : List ℕ). AllPairs (λ j k. j < k) ms) e c.points-a-items.ensures.rising in
    let l : n < length ls = (let m = ap length e in let t = c.loop-a-test.true in omega (arith, m, t)) in
    upto_more g x ls n [] c.loop-a.folds.items c.add_folds.new.folds.items rising l c.loop-a.invariant
    (subst (λ (i : ℕ). AddsFolds g x (λ j k. j ≡ i) c.loop-a.folds.items c.add_folds.new.folds.items) (ap (λ ms. get_or ms n 0) e) c.in_ok-add_folds.ensures)

pub returns : goal.returns
returns c =
    let g = c.args.chart.now in
    let x = c.args.item.now in
    let e = c.points-a-items.ensures.value in
    let l : length (spot_numbers g) ≤ c.loop-a.a-index = (let m = ap length e in let t = c.loop-a-test.false in omega (arith, m, t)) in
    let P : List Fold → Type 0 = λ rs. AreFolds g x rs × All IsSmallFold rs in
    let r = subst P (sym c.from_vec.ensures) (upto_end g x c.requires c.loop-a.a-index c.loop-a.folds.items l c.loop-a.invariant) in
    record {
      folds = r.0;
      small = r.1;
      planes = listed_exactly_regular g x c.points-a-items.ensures.apart c.requires c.from_vec.result r.0;
    }
