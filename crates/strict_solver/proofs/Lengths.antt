-- How long runs are: each height is loaded once at most, and then come fewer moves than there are sets of slacks.
use Rattle.std.proofs.Common.{◌≡◌, ℕ, suc, ◌+◌, ◌-◌, ◌^◌, ◌<◌, ◌⊎◌, inl, inr, ap, ◌∙◌, subst, arith, ℤ, List, [], ◌∷◌, length, Some, None}
use Rattle.std.proofs.lemmas.Nat.{pow_pos}
use Rattle.std.proofs.lemmas.List.FromFn.{length-range_with_len}
use Rattle.ntfe_model.specs.Solver.{Table, Move, start_table, next_load, moving, IsRun}
use Rattle.strict_solver.specs.Lengths.{AreRowsOver, IsMovingRun}
use Rattle.strict_solver.proofs.Pivots.{IsTable, pivot-table, run-table, run-length}
use Rattle.strict_solver.proofs.Moves.{move_of-pivot, next_load-found}
use Rattle.strict_solver.proofs.Runs.{IsLoading, lines_of, start-length, start-is_table, start-loading, step-loading, run-loading, end-loaded, run-moving}
use Rattle.strict_solver.proofs.Bound.{few_moves}

lines-count : (ts : List Table) → length (lines_of ts) ≡ length ts
lines-count [] = let e : 0 ≡ 0 = omega arith in e
lines-count (t ∷ ts) = ap suc (lines-count ts)

module _ (columns n : ℕ) where
  -- from a table where nothing is left to be loaded
  moves_few : (s : Table) (ts : List Table) (t : Table) → IsRun columns s ts t → IsTable s.lines → length s.lines ≡ columns + n → IsLoading columns s → next_load columns s.lines s.to_load ≡ None → length ts < 2 ^ n
  moves_few s ts t m w e l d =
      let h = few_moves columns (length s.lines) s.lines (lines_of ts) t.lines w (omega arith) (end-loaded columns s l d) (run-moving columns (length s.lines) s ts t m d (λ i. length s.lines)) in
      let f : length s.lines - columns ≡ n = omega arith in
      let g = lines-count ts in
      subst (λ k. length ts < 2 ^ k) f (omega arith)

  pivots_few : (s : Table) (ts : List Table) (t : Table) → IsRun columns s ts t → IsTable s.lines → length s.lines ≡ columns + n → IsLoading columns s → length ts < length s.to_load + 2 ^ n
  pivots_few s [] t m w e l = let p = pow_pos n in omega arith
  pivots_few s (r ∷ ts) t m w e l = by (move_of-pivot columns s m.0.0 m.0.1 r.to_load m.0.2) (pivots_few r ts t)
    where
      by : (next_load columns s.lines s.to_load ≡ Some (m.0.0, m.0.1, r.to_load)) ⊎ ((next_load columns s.lines s.to_load ≡ None) × (moving columns s.lines ≡ Move.pivot m.0.0 m.0.1 r.to_load))
          → (IsRun columns r ts t → IsTable r.lines → length r.lines ≡ columns + n → IsLoading columns r → length ts < length r.to_load + 2 ^ n) → length (r ∷ ts) < length s.to_load + 2 ^ n
      by (inl f) rest =
          let a = (next_load-found columns s.lines s.to_load m.0.0 m.0.1 r.to_load f).shorter in
          let b = rest m.1 (pivot-table m.0.0 m.0.1 s.lines r.lines m.0.3 w) (m.0.3.length_same ∙ e) (step-loading columns s r m.0 w (omega arith) l) in
          omega arith
      by (inr f) rest = let a = moves_few s (r ∷ ts) t m w e l f.0 in omega arith

pub moving_short : (columns : ℕ) (rs : List (List ℤ)) (s : Table) (moved : List Table) (t : Table) → AreRowsOver columns rs → IsMovingRun columns rs s moved t → length moved < 2 ^ length rs
moving_short columns rs s moved t w m =
    let table = start-is_table columns rs w in
    let count = start-length columns (length rs) rs in
    let same = run-length columns (start_table columns rs) m.loaded s m.loading in
    moves_few columns (length rs) s moved t m.moving (run-table columns (start_table columns rs) m.loaded s m.loading table) (same ∙ count)
    (run-loading columns (start_table columns rs) m.loaded s m.loading table (omega arith) (start-loading columns rs)) m.done

pub run_short : (columns : ℕ) (rs : List (List ℤ)) (tables : List Table) (t : Table) → AreRowsOver columns rs → IsRun columns (start_table columns rs) tables t → length tables < columns + 2 ^ length rs
run_short columns rs tables t w m =
    let h = pivots_few columns (length rs) (start_table columns rs) tables t m (start-is_table columns rs w) (start-length columns (length rs) rs) (start-loading columns rs) in
    let e = length-range_with_len 0 columns in
    omega arith
