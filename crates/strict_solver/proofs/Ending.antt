-- The run without a width comes to an end: each move that comes can be made, and no run is long.
--     comes_to_end      the run ends with heights, or with multipliers
use Rattle.std.proofs.Common.{◌≡◌, ℕ, zero, suc, ◌+◌, ◌^◌, ◌<◌, ◌≤◌, ◌⊎◌, inl, inr, not, refl, sym, arith, ℤ, pos, List, [], ◌∷◌, ◌++◌, length, length-append, Some, None}
use Rattle.std.specs.Ordering.{int_eq}
use Rattle.std.proofs.lemmas.List.{get_or_past}
use Rattle.ntfe_model.specs.Solver.{Table, Move, coefficient_at, start_table, first_slack, next_load, moving, move_of, multipliers_of, IsPivot, IsRun, IsFeasible, IsInfeasible}
use Rattle.ntfe_model.specs.Solver.Move.{pivot, feasible, infeasible}
use Rattle.strict_solver.specs.Grids.{IsPivotable}
use Rattle.strict_solver.specs.Lengths.{AreRowsOver}
use Rattle.strict_solver.specs.Scales.{scale_to, scales_of, heights_by}
use Rattle.strict_solver.proofs.GoingOn.{run-append}
use Rattle.strict_solver.proofs.Lengths.{run_short}
use Rattle.strict_solver.proofs.Moves.{first_slack-found, int_eq-some, move_of-pivot, move_of-infeasible, moving-pivot, moving-infeasible, next_load-found}
use Rattle.strict_solver.proofs.Pivots.{IsTable, get_there, run-table}
use Rattle.strict_solver.proofs.Running.{load-pivotable}
use Rattle.strict_solver.proofs.Runs.{start-is_table}
use Rattle.strict_solver.proofs.Scaling.{scaling_is}
use Rattle.strict_solver.proofs.Steps.{step_lines, step-is, move-pivotable}

-- the move that comes can be made
pivotable : (columns : ℕ) (t : Table) (x y : ℕ) (l : List ℕ) → IsTable t.lines → move_of columns t ≡ pivot x y l → IsPivotable x y t.lines
pivotable columns t x y l w e = by (move_of-pivot columns t x y l e)
  where
    by : (next_load columns t.lines t.to_load ≡ Some (x, y, l)) ⊎ ((next_load columns t.lines t.to_load ≡ None) × (moving columns t.lines ≡ pivot x y l)) → IsPivotable x y t.lines
    by (inl f) = load-pivotable columns x y t.lines w within (sym first)
      where
        first : first_slack columns (λ r. not (int_eq (coefficient_at r y) (pos 0))) t.lines ≡ Some x
        first = (next_load-found columns t.lines t.to_load x y l f).first

        within : y < length t.lines
        within = at (let c : (y < length t.lines) ⊎ (length t.lines ≤ y) = grind arith in c)
          where
            at : (y < length t.lines) ⊎ (length t.lines ≤ y) → y < length t.lines
            at (inl h) = h
            at (inr h) =
                let k = first_slack-found columns (λ r. not (int_eq (coefficient_at r y) (pos 0))) t.lines x first in
                let c = (w x k.row k.is).count in
                absurd (int_eq-some (coefficient_at k.row y) k.passes (get_or_past k.row.coefficients y (pos 0) (omega (arith, c, h))))
    by (inr f) = move-pivotable columns x y t.lines (moving-pivot columns t.lines x y l f.1).0

module _ (columns : ℕ) (rs : List (List ℤ)) (w : AreRowsOver columns rs) where
  abbrev Ends : Type 0
  Ends = ((hs : List ℤ) × IsFeasible columns rs None hs) ⊎ ((ms : List (ℕ × ℤ)) × IsInfeasible columns rs None ms)

  from : (n : ℕ) (tables : List Table) (t : Table) → IsRun columns (start_table columns rs) tables t → columns + 2 ^ length rs ≤ n + length tables → Ends
  from zero tables t m l = absurd (let k = run_short columns rs tables t w m in omega (arith, k, l))
  from (suc n) tables t m l = by (move_of columns t) refl (from n)
    where
      table : IsTable t.lines
      table = run-table columns (start_table columns rs) tables t m (start-is_table columns rs w)

      by : (o : Move) → move_of columns t ≡ o → ((ts : List Table) (u : Table) → IsRun columns (start_table columns rs) ts u → columns + 2 ^ length rs ≤ n + length ts → Ends) → Ends
      by feasible e rest = inl (
        heights_by columns (scale_to t.lines columns) t.lines,
        record {
          steps = length tables;
          end = t;
          reaches = record { tables = tables; count = refl; run = m; narrow = λ k s i f. tt };
          narrow = tt;
          move = e;
          scales = scales_of columns t.lines;
          scaling = scaling_is columns t.lines table;
          narrow_scaling = tt;
        },
      )
      by (infeasible x) e rest =
          let f = first_slack-found columns _ t.lines x (moving-infeasible columns t.lines x (move_of-infeasible columns t x e).1).0 in
          inr (
            multipliers_of columns (length rs) x f.row,
            record {
              steps = length tables;
              end = t;
              reaches = record { tables = tables; count = refl; run = m; narrow = λ k s i g. tt };
              narrow = tt;
              slack = x;
              move = e;
              row = f.row;
              is = get_there t.lines x f.row f.is;
              multipliers_are = refl;
            },
          )
      by (pivot x y k) e rest =
          let u : Table = record { lines = step_lines x y t.lines; to_load = k } in
          let p : IsPivot x y t.lines (step_lines x y t.lines) = step-is x y t.lines table (pivotable columns t x y k table e) in
          let c = length-append tables (u ∷ []) in
          rest (tables ++ u ∷ []) u (run-append columns (start_table columns rs) tables t (u ∷ []) u m ((x, y, e, p), refl)) (omega (arith, c, l))

  pub comes_to_end : Ends
  comes_to_end = from (columns + 2 ^ length rs) [] (start_table columns rs) refl (omega arith)
