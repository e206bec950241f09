-- What a feasible answer means: at these heights each row is at least 1.
use Rattle.std.proofs.Common.{◌≡◌, ℕ, zero, suc, ◌+◌, ◌<◌, ◌≤◌, refl, sym, ap, ◌∙◌, subst, arith, ℤ, pos, negsuc, ◌+ℤ◌, ◌-ℤ◌, ◌*ℤ◌, ◌<ℤ◌, ◌≤ℤ◌, List, [], ◌∷◌, ◌++◌, replicate, length, get_or, Some, None, Option}
use Rattle.std.proofs.lemmas.Int.{ints}
use Rattle.ntfe_model.specs.Solver.{Line, start_line, start_table, first_negative, last_scale, IsScaled, IsFeasible}
use Rattle.ntfe_nums.proofs.Ring.{ring, product_zero, zero_product}
use Rattle.ntfe_nums.proofs.Ring.Expression.{var, num, plus, minus, times}
use Rattle.strict_solver.specs.Equations.{combination, Holds}
use Rattle.strict_solver.proofs.Forms.{back}
use Rattle.strict_solver.proofs.Pivots.{IsTable, in_table, run-table, run-length, run-held}
use Rattle.strict_solver.proofs.Moves.{no_first_slack, moving-feasible, move_of-feasible, int_lt-not_zero}
use Rattle.strict_solver.proofs.Values.{common, values_by, common-positive, length-values, value-none, value-some, values-hold}
use Rattle.strict_solver.proofs.Runs.{AreRows, start_lines, start-at, start-length, start-is_table}
use Rattle.ntfe_nums.proofs.Signs.{not_negative, positive_some, product_not_negative, factor_not_negative}

pub combination-zeros : (n : ℕ) (vs : List ℤ) → combination (replicate n (pos 0)) vs ≡ pos 0
combination-zeros zero vs = refl
combination-zeros (suc n) [] = refl
combination-zeros (suc n) (v ∷ vs) = (λ i. zero_product v i +ℤ combination-zeros n vs i)

-- a row of the start sees the heights alone
pub start-combination : (p : ℤ) (es ws vs : List ℤ) (n : ℕ) → length es ≡ length ws → length ws ≤ length vs → ((k : ℕ) → k < length ws → get_or vs k (pos 0) ≡ p *ℤ get_or ws k (pos 0))
    → combination (es ++ replicate n (pos 0)) vs ≡ p *ℤ combination es ws
start-combination p [] ws vs n l m h = combination-zeros n vs ∙ sym (product_zero p)
start-combination p (e ∷ es) [] vs n l m h = absurd (omega arith)
start-combination p (e ∷ es) (w ∷ ws) [] n l m h = absurd (omega arith)
start-combination p (e ∷ es) (w ∷ ws) (v ∷ vs) n l m h =
    (λ i. e *ℤ h 0 (omega arith) i +ℤ start-combination p es ws vs n (omega arith) (omega arith) (λ k g. h (suc k) (omega arith)) i)
    ∙ ring (p ∷ e ∷ w ∷ combination es ws ∷ []) (plus (times (var 1) (times (var 0) (var 2))) (times (var 0) (var 3))) (times (var 0) (plus (times (var 1) (var 2)) (var 3))) refl

last_positive : (ms : List ℕ) → ((k : ℕ) → k < length ms → 0 < get_or ms k 0) → 0 < last_scale ms
last_positive [] h = omega arith
last_positive (m ∷ []) h = h 0 (omega arith)
last_positive (m ∷ n ∷ ms) h = last_positive (n ∷ ms) (λ k g. h (suc k) (omega arith))

scaled-value : (m : ℕ) (s : List (Option Line)) (k : ℕ) (h : ℤ) (w : IsTable s) → IsScaled m (get_or s k None) h → get_or (values_by (pos m) s) k (pos 0) ≡ common s *ℤ h
scaled-value m s k h w i = by (get_or s k None) refl i
  where
    by : (o : Option Line) → get_or s k None ≡ o → IsScaled m o h → get_or (values_by (pos m) s) k (pos 0) ≡ common s *ℤ h
    by None e f = value-none (pos m) s k e ∙ sym (ap (λ z. common s *ℤ z) f ∙ product_zero (common s))
    by (Some r) e f =
        back (r.d *ℤ get_or (values_by (pos m) s) k (pos 0)) (r.d *ℤ (common s *ℤ h)) r.d (get_or (values_by (pos m) s) k (pos 0)) (common s *ℤ h)
        (positive_some r.d (w k r e).positive)
        (ring (r.d ∷ get_or (values_by (pos m) s) k (pos 0) ∷ (common s *ℤ h) ∷ []) (minus (times (var 0) (var 1)) (times (var 0) (var 2))) (times (var 0) (minus (var 1) (var 2))) refl)
        (value-some (pos m) s k r e
        ∙ ring (pos m ∷ common s ∷ r.c ∷ []) (times (times (var 0) (var 1)) (var 2)) (times (var 1) (times (var 0) (var 2))) refl
        ∙ ap (λ z. common s *ℤ z) (sym f)
        ∙ ring (r.d ∷ common s ∷ h ∷ []) (times (var 1) (times (var 0) (var 2))) (times (var 0) (times (var 1) (var 2))) refl)

module _ (columns : ℕ) (rs : List (List ℤ)) (width : Option ℕ) (heights : List ℤ) (w : AreRows columns rs) (f : IsFeasible columns rs width heights) where
  m : ℕ
  m = last_scale f.scales

  scale_positive : 0 < last_scale f.scales
  scale_positive = last_positive f.scales (λ k h. (f.scaling.scale k (let a = f.scaling.counts.0 in omega arith)).positive)

  end_table : IsTable f.end.lines
  end_table = run-table columns (start_table columns rs) f.reaches.tables f.end f.reaches.run (start-is_table columns rs w)

  end_length : length f.end.lines ≡ columns + length rs
  end_length = run-length columns (start_table columns rs) f.reaches.tables f.end f.reaches.run ∙ start-length columns (length rs) rs

  held : Holds (pos (last_scale f.scales) *ℤ common f.end.lines) (values_by (pos (last_scale f.scales)) f.end.lines) (start_lines columns (length rs) rs)
  held =
      run-held columns (start_table columns rs) f.reaches.tables f.end f.reaches.run (start-is_table columns rs w) _ (values_by (pos (last_scale f.scales)) f.end.lines)
      (length-values (pos (last_scale f.scales)) f.end.lines ∙ run-length columns (start_table columns rs) f.reaches.tables f.end f.reaches.run)
      (values-hold (pos (last_scale f.scales)) f.end.lines end_table)

  common_positive : pos 0 <ℤ common f.end.lines
  common_positive = common-positive f.end.lines (λ z r e. (end_table z r e).positive)

  slack_not_negative : (z : ℕ) → columns ≤ z → pos 0 ≤ℤ get_or (values_by (pos (last_scale f.scales)) f.end.lines) z (pos 0)
  slack_not_negative z c = by (get_or f.end.lines z None) refl
    where
      none : first_negative columns f.end.lines ≡ None
      none = moving-feasible columns f.end.lines (move_of-feasible columns f.end f.move).1

      by : (o : Option Line) → get_or f.end.lines z None ≡ o → pos 0 ≤ℤ get_or (values_by (pos (last_scale f.scales)) f.end.lines) z (pos 0)
      by None e = let g = value-none (pos (last_scale f.scales)) f.end.lines z e in omega (arith, ints)
      by (Some r) e =
          factor_not_negative r.d _ (end_table z r e).positive
          (let P : ℤ → Type 0 = λ k. pos 0 ≤ℤ k in
          subst P (sym (value-some (pos (last_scale f.scales)) f.end.lines z r e))
          (product_not_negative (pos (last_scale f.scales) *ℤ common f.end.lines) r.c
          (product_not_negative (pos (last_scale f.scales)) (common f.end.lines) (omega (arith, ints)) (not_negative _ common_positive))
          (int_lt-not_zero r.c (no_first_slack columns _ f.end.lines none z r c (in_table f.end.lines z r e) e))))

  -- each row is at least the last scale at the heights
  pub feasible-scaled : (j : ℕ) → j < length rs → pos (last_scale f.scales) ≤ℤ combination (get_or rs j []) heights
  feasible-scaled j h =
      let row = held (columns + j) (start_line (length rs) (get_or rs j [])) (start-at columns (length rs) rs (columns + j) j refl h) in
      let a = w j h in
      let b = f.scaling.counts.1 in
      let lv = length-values (pos (last_scale f.scales)) f.end.lines in
      let le = end_length in
      let sum : combination (get_or rs j [] ++ replicate (length rs) (pos 0)) (values_by (pos (last_scale f.scales)) f.end.lines) ≡ common f.end.lines *ℤ combination (get_or rs j []) heights =
      start-combination (common f.end.lines) (get_or rs j []) heights (values_by (pos (last_scale f.scales)) f.end.lines) (length rs) (a ∙ sym b) (omega arith)
      (λ k g. scaled-value (last_scale f.scales) f.end.lines k (get_or heights k (pos 0)) end_table (f.scaling.scaled k (omega arith))) in
      let v = get_or (values_by (pos (last_scale f.scales)) f.end.lines) (columns + j) (pos 0) in
      let one = pos (last_scale f.scales) *ℤ common f.end.lines in
      above (combination (get_or rs j []) heights) (pos (last_scale f.scales))
      (factor_not_negative (common f.end.lines) (combination (get_or rs j []) heights -ℤ pos (last_scale f.scales)) common_positive
      (let P : ℤ → Type 0 = λ k. pos 0 ≤ℤ k in
      subst P (ring (v ∷ []) (var 0) (times (num (pos 1)) (var 0)) refl ∙ row ∙ ap (λ k. negsuc 0 *ℤ one +ℤ k) sum
      ∙ ring (pos (last_scale f.scales) ∷ common f.end.lines ∷ combination (get_or rs j []) heights ∷ [])
      (plus (times (num (negsuc 0)) (times (var 0) (var 1))) (times (var 1) (var 2)))
      (times (var 1) (minus (var 2) (var 0))) refl)
      (slack_not_negative (columns + j) (omega arith))))
    where
      above : (x y : ℤ) → pos 0 ≤ℤ (x -ℤ y) → y ≤ℤ x
      above x y g = omega (arith, ints)

  -- each row is at least 1 at the heights
  pub feasible-rows : (j : ℕ) → j < length rs → pos 1 ≤ℤ combination (get_or rs j []) heights
  feasible-rows j h = at (combination (get_or rs j []) heights) (last_scale f.scales) scale_positive (feasible-scaled j h)
    where
      at : (z : ℤ) (n : ℕ) → 0 < n → pos n ≤ℤ z → pos 1 ≤ℤ z
      at z n g i = omega (arith, ints)
