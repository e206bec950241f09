-- Solving row by row: from no rows on, each state of the stated run without a width is known again after one more row.
--     no-rows              the run on no rows ends at once, feasible
--     moves-on, ends-here, fails-here      from a table with nothing left to load on, the run moves
--     end-heights          the heights of the end
use Rattle.std.proofs.Common.{◌≡◌, ℕ, zero, suc, ◌+◌, ◌<◌, ◌≤◌, Bool, false, cond, not, ◌&&◌, refl, ap, ◌∙◌, arith, ℤ, pos, int_lt, List, [], ◌∷◌, ◌++◌, length, get_or, Some, None, Option}
use Rattle.std.specs.Prelude.{find, slice_get, nat_le}
use Rattle.std.specs.Option.{option_map_or}
use Rattle.std.specs.Ordering.{int_eq}
use Rattle.std.specs.List.{range_with_len}
use Rattle.ntfe_nums.proofs.Comparisons.{not_le}
use Rattle.ntfe_model.specs.Solver.{Line, Table, coefficient_at, start_table, first_slack, next_load, first_entering, moving, move_of, multipliers_of, IsPivot, IsScaling, IsFeasible, IsInfeasible}
use Rattle.ntfe_model.specs.Solver.Move.{pivot, feasible, infeasible}
use Rattle.strict_solver.specs.Continuing.{EndsWith, HasLoadedTo}
use Rattle.strict_solver.proofs.Moves.{loads}
use Rattle.strict_solver.proofs.Runs.{start-length}
use Rattle.strict_solver.proofs.GoingOn.{run-append}

-- ---- no rows
pub find-none : (test : ℕ → Bool) (a n : ℕ) → ((j : ℕ) → a ≤ j → j < a + n → test j ≡ false) → find test (range_with_len a n) ≡ None
find-none test a zero h = refl
find-none test a (suc n) h = ap (λ b. cond b (Some a) (find test (range_with_len (a + 1) n))) (h a (omega arith) (omega arith)) ∙ find-none test (a + 1) n (λ j c l. h j (omega arith) (omega arith))

no_slack : (columns : ℕ) (test : Line → Bool) (s : List (Option Line)) → length s ≤ columns → first_slack columns test s ≡ None
no_slack columns test s l =
    find-none (λ x. nat_le columns x && option_map_or test (get_or s x None) false) 0 (length s)
    (λ j c h. ap (λ b. b && option_map_or test (get_or s j None) false) (not_le columns j (omega arith)))

no_load : (columns : ℕ) (s : List (Option Line)) (ks : List ℕ) → length s ≤ columns → next_load columns s ks ≡ None
no_load columns s [] l = refl
no_load columns s (k ∷ ks) l = ap (λ o. option_map_or (λ x. Some (x, k, ks)) o (next_load columns s ks)) (no_slack columns (λ r. not (int_eq (coefficient_at r k) (pos 0))) s l) ∙ no_load columns s ks l

pub no-rows : (columns : ℕ) → EndsWith columns [] (start_table columns [])
no-rows columns = record {
  steps = 0;
  reaches = record { tables = []; count = refl; run = refl; narrow = λ k s l e. tt };
  move =
      ap (λ o. option_map_or loads o (moving columns (start_table columns []).lines)) (no_load columns (start_table columns []).lines (range_with_len 0 columns) few)
      ∙ ap (λ o. option_map_or (λ x. option_map_or (λ y. pivot x y []) (first_entering columns (start_table columns []).lines x) (infeasible x)) o feasible) (no_slack columns (λ r. int_lt r.c (pos 0)) (start_table columns []).lines few);
}
  where
    few : length (start_table columns []).lines ≤ columns
    few = let a = start-length columns 0 [] in omega arith

-- ---- moves
module _ (columns : ℕ) (rs : List (List ℤ)) (t : Table) (h : HasLoadedTo columns rs t) where
  next : move_of columns t ≡ moving columns t.lines
  next = ap (λ o. option_map_or loads o (moving columns t.lines)) h.done

  pub moves-on : (x y : ℕ) (ls : List (Option Line)) → moving columns t.lines ≡ pivot x y [] → IsPivot x y t.lines ls → HasLoadedTo columns rs (record { lines = ls; to_load = [] })
  moves-on x y ls m p =
      let v : Table = record { lines = ls; to_load = [] } in
      record {
        steps = length (h.reaches.tables ++ v ∷ []);
        reaches = record {
          tables = h.reaches.tables ++ v ∷ [];
          count = refl;
          run = run-append columns (start_table columns rs) h.reaches.tables t (v ∷ []) v h.reaches.run ((x, y, next ∙ m, p), refl);
          narrow = λ k s l e. tt;
        };
        done = refl;
      }

  pub ends-here : moving columns t.lines ≡ feasible → EndsWith columns rs t
  ends-here m = record { steps = h.steps; reaches = h.reaches; move = next ∙ m }

  pub fails-here : (x : ℕ) (row : Line) → moving columns t.lines ≡ infeasible x → slice_get t.lines x ≡ Some (Some row) → IsInfeasible columns rs None (multipliers_of columns (length rs) x row)
  fails-here x row m is = record { steps = h.steps; end = t; reaches = h.reaches; narrow = tt; slack = x; move = next ∙ m; row = row; is = is; multipliers_are = refl }

-- ---- ends
pub end-heights : (columns : ℕ) (rs : List (List ℤ)) (end : Table) (scales : List ℕ) (heights : List ℤ) → EndsWith columns rs end → IsScaling columns end.lines scales heights → IsFeasible columns rs None heights
end-heights columns rs end scales heights e s = record { steps = e.steps; end = end; reaches = e.reaches; narrow = tt; move = e.move; scales = scales; scaling = s; narrow_scaling = tt }
