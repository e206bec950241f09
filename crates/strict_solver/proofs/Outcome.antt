-- The answer at the end of a run.
use Rattle.std.proofs.Common.{◌≡◌, ℕ, zero, suc, ◌+◌, ◌-◌, ◌^◌, ◌<◌, ◌≤◌, min, sym, ap, ◌∙◌, subst, arith, ℤ, pos, List, [], ◌∷◌, map, length, get_or, unsigned_abs, Option, Some, None}
use Rattle.std.specs.Prelude.{MatchOption}
use Rattle.std.proofs.lemmas.List.{length-map, get_or-map}
use Rattle.ntfe_model.specs.declared.nogood.Fold.{Fold}
use Rattle.ntfe_model.specs.Solver.{Line, Table, fold_row, start_table, first_wide, multipliers_of, scaling_numbers, IsFeasible, IsInfeasible, IsWideScaling}
use Rattle.strict_solver.specs.Runs.{IsLoadedAt, IsSettled, HasLoaded}
use Rattle.strict_solver.specs.Scales.{scale_to, scales_of, heights_by}
use Rattle.strict_solver.proofs.Pivots.{IsTable, get_there}
use Rattle.strict_solver.proofs.Moves.{first_slack-found, move_of-infeasible, moving-infeasible}
use Rattle.strict_solver.proofs.Runs.{AreRows, start-is_table, start-length, start-loading, run-loading, end-loaded}
use Rattle.strict_solver.proofs.Running.{shown_more}
use Rattle.strict_solver.proofs.Scaling.{scaling_is, ranged_length, ranged_get}
use Rattle.strict_solver.proofs.Tables.{first_wide-append, first_wide-front}
use Rattle.strict_solver.proofs.Wide.{all_narrow}
use Rattle.strict_solver.proofs.Starting.{fold_row-length}

-- ---- the rows of folds

pub are_rows : (n : ℕ) (fs : List Fold) → AreRows n (map (fold_row n) fs)
are_rows n [] zero l = absurd (omega arith)
are_rows n [] (suc j) l = absurd (omega arith)
are_rows n (f ∷ fs) zero l = fold_row-length n f
are_rows n (f ∷ fs) (suc j) l = are_rows n fs j (omega arith)

pub loaded_has : (columns width : ℕ) (rs : List (List ℤ)) (step : ℕ) (s : List (Option Line)) → AreRows columns rs → IsLoadedAt columns width rs step s → HasLoaded columns s
loaded_has columns width rs step s w h =
    let r = h.stands.reaches in
    let t : Table = record { lines = s; to_load = h.to_load } in
    end-loaded columns t
    (run-loading columns (start_table columns rs) r.tables t r.run (start-is_table columns rs w) (let e = start-length columns (length rs) rs in omega arith) (start-loading columns rs)) h.done

-- ---- the answers
pub is_infeasible : (columns width : ℕ) (rs : List (List ℤ)) (step x rows : ℕ) (s : List (Option Line)) (ms : List (ℕ × ℤ)) → IsSettled columns width rs step (Some x) s → rows ≡ length rs
    → ((line : Line) → get_or s x None ≡ Some line → ms ≡ multipliers_of columns rows x line) → IsInfeasible columns rs (Some width) ms
is_infeasible columns width rs step x rows s ms h e value =
    let t : Table = record { lines = s; to_load = h.to_load } in
    let m = moving-infeasible columns s x (move_of-infeasible columns t x h.move).1 in
    let f = first_slack-found columns _ s x m.0 in
    record {
      steps = h.steps;
      end = t;
      reaches = h.stands.reaches;
      narrow = h.stands.narrow;
      slack = x;
      move = h.move;
      row = f.row;
      is = get_there s x f.row f.is;
      multipliers_are = value f.row f.is ∙ ap (λ n. multipliers_of columns n x f.row) e;
    }

pub slack_within : (columns width : ℕ) (rs : List (List ℤ)) (step x : ℕ) (s : List (Option Line)) → IsSettled columns width rs step (Some x) s → x < length s
slack_within columns width rs step x s h =
    let t : Table = record { lines = s; to_load = h.to_load } in
    let m = moving-infeasible columns s x (move_of-infeasible columns t x h.move).1 in
    (first_slack-found columns _ s x m.0).below

pub is_feasible : (columns width : ℕ) (rs : List (List ℤ)) (step : ℕ) (s : List (Option Line)) (hs : List ℤ) → IsSettled columns width rs step None s → IsTable s → hs ≡ heights_by columns (scale_to s columns) s
    → first_wide width (scaling_numbers (scales_of columns s) (heights_by columns (scale_to s columns) s)) ≡ None → IsFeasible columns rs (Some width) hs
is_feasible columns width rs step s hs h w e n =
    let P : List ℤ → Type 0 = λ k. IsFeasible columns rs (Some width) k in
    subst P (sym e) (record {
      steps = h.steps;
      end = record { lines = s; to_load = h.to_load };
      reaches = h.stands.reaches;
      narrow = h.stands.narrow;
      move = h.move;
      scales = scales_of columns s;
      scaling = scaling_is columns s w;
      narrow_scaling = n;
    })

pub is_wide_scaling : (columns width : ℕ) (rs : List (List ℤ)) (step next : ℕ) (s : List (Option Line)) (z : ℤ) → IsSettled columns width rs step None s → IsTable s → next ≡ min (step + 1) (2 ^ 64 - 1)
    → first_wide width (scaling_numbers (scales_of columns s) (heights_by columns (scale_to s columns) s)) ≡ Some z → IsWideScaling columns rs width next z
is_wide_scaling columns width rs step next s z h w e f = record {
  steps = h.steps;
  end = record { lines = s; to_load = h.to_load };
  reaches = h.stands.reaches;
  narrow = h.stands.narrow;
  move = h.move;
  scales = scales_of columns s;
  heights = heights_by columns (scale_to s columns) s;
  scaling = scaling_is columns s w;
  first = f;
  shown = shown_more step h.steps next h.shown e;
}

-- ---- the numbers of the scaling
pub scales_narrow : (columns width : ℕ) (s : List (Option Line)) → ((k : ℕ) → k ≤ columns → scale_to s k < 2 ^ width) → first_wide width (map pos (scales_of columns s)) ≡ None
scales_narrow columns width s h = all_narrow width (map pos (scales_of columns s)) at
  where
    count : length (scales_of columns s) ≡ columns
    count = ranged_length (λ k. scale_to s (k + 1)) columns

    at : (k : ℕ) → k < length (map pos (scales_of columns s)) → unsigned_abs (get_or (map pos (scales_of columns s)) k (pos 0)) < 2 ^ width
    at k l =
        let c = count in
        let d = length-map (scales_of columns s) pos in
        subst (λ z. unsigned_abs z < 2 ^ width) (sym (get_or-map pos (scales_of columns s) k 0 (pos 0) (omega arith) ∙ ap pos (ranged_get (λ k. scale_to s (k + 1)) columns k 0 (omega arith)))) (h (k + 1) (omega arith))

pub heights_answer : (columns width scale : ℕ) (s : List (Option Line)) (o : Option ℤ) (hs : List ℤ) → scale ≡ scale_to s columns → ((k : ℕ) → k ≤ columns → scale_to s k < 2 ^ width)
    → MatchOption o ((hs ≡ heights_by columns scale s) × (first_wide width hs ≡ None)) (λ z. first_wide width (heights_by columns scale s) ≡ Some z)
    → MatchOption o ((hs ≡ heights_by columns (scale_to s columns) s) × (first_wide width (scaling_numbers (scales_of columns s) (heights_by columns (scale_to s columns) s)) ≡ None))
    (λ z. first_wide width (scaling_numbers (scales_of columns s) (heights_by columns (scale_to s columns) s)) ≡ Some z)
heights_answer columns width scale s None hs e n h =
    let f = h.0 ∙ ap (λ m. heights_by columns m s) e in
    (f, first_wide-append width (map pos (scales_of columns s)) (heights_by columns (scale_to s columns) s) (scales_narrow columns width s n) ∙ ap (first_wide width) (sym f) ∙ h.1)
heights_answer columns width scale s (Some z) hs e n h =
    first_wide-append width (map pos (scales_of columns s)) (heights_by columns (scale_to s columns) s) (scales_narrow columns width s n) ∙ ap (λ m. first_wide width (heights_by columns m s)) (sym e) ∙ h

pub scales_wide : (columns width : ℕ) (s : List (Option Line)) (z : ℤ) → first_wide width (map pos (scales_of columns s)) ≡ Some z → first_wide width (scaling_numbers (scales_of columns s) (heights_by columns (scale_to s columns) s)) ≡ Some z
scales_wide columns width s z e = first_wide-front width (map pos (scales_of columns s)) (heights_by columns (scale_to s columns) s) z e
