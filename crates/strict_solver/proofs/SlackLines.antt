-- The line of a row's slack over the variables that are not basic is determined, up to a factor.
--     lines-proportional     two lines for one row are proportional
--     lowest-same            in lowest form they are equal
--     slack-value            what a slack's value is
--     slack-line             a basic slack's line in a table of the run is one for its row
--     idle-constant          where the slack is not basic, its line has the constant 0
use Rattle.std.proofs.Common.{◌≡◌, ◌≢◌, ℕ, ◌+◌, ◌<◌, ◌⊎◌, inl, inr, refl, sym, ap, ◌∙◌, arith, ℤ, pos, negsuc, ◌+ℤ◌, ◌-ℤ◌, ◌*ℤ◌, ◌<ℤ◌, List, [], ◌∷◌, length, get_or, Some, None, Option}
use Rattle.std.proofs.lemmas.Int.{ints}
use Rattle.ntfe_nums.proofs.Ring.{ring, product_zero, sum_zero}
use Rattle.ntfe_nums.proofs.Ring.Expression.{var, num, plus, minus, times}
use Rattle.ntfe_model.specs.Solver.{Line, Table, coefficient_at, start_line, start_table, Reaches}
use Rattle.strict_solver.specs.Equations.{combination, Holds}
use Rattle.strict_solver.specs.Continuing.{IsLowest, IsLineFor}
use Rattle.strict_solver.proofs.Forms.{zero_factor}
use Rattle.strict_solver.proofs.Pivots.{IsTable, run-table, run-length, run-held}
use Rattle.strict_solver.proofs.Values.{common, values_by, common-positive, length-values, value-none, values-hold, values-sum}
use Rattle.strict_solver.proofs.Runs.{AreRows, start_lines, start-at, start-length, start-is_table}
use Rattle.strict_solver.proofs.Directions.{IsDirection, direction_values, direction, direction-sum}
use Rattle.strict_solver.proofs.Deciding.{combination-padded}
use Rattle.strict_solver.proofs.Unique.{proportion, proportional-same, zero_left, proportional-lists}
use Rattle.strict_solver.proofs.Entries.{basic_or_not}
use Rattle.ntfe_nums.proofs.Signs.{product_exchanged}

-- the values where the variables that are not basic are 0
module _ (q : List ℤ) (s : List (Option Line)) (ws : IsTable s) where
  pub still_positive : pos 0 <ℤ (pos 1 *ℤ common s)
  still_positive = let a = common-positive s (λ z r e. (ws z r e).positive) in let b : pos 1 *ℤ common s ≡ common s = ring (common s ∷ []) (times (num (pos 1)) (var 0)) (var 0) refl in omega (arith, ints)

  pub still_some : pos 1 *ℤ common s ≢ pos 0
  still_some e = let a = still_positive in omega (arith, ints)

  pub still-value : (l : Line) → IsLineFor q s l → l.d *ℤ (combination q (values_by (pos 1) s) -ℤ pos 1 *ℤ common s) ≡ l.c *ℤ (pos 1 *ℤ common s)
  still-value l f =
      f.value (pos 1 *ℤ common s) (values_by (pos 1) s) (length-values (pos 1) s) (values-hold (pos 1) s ws)
      ∙ ap (λ k. l.c *ℤ (pos 1 *ℤ common s) +ℤ k) (values-sum (pos 1) s l.coefficients f.zeros) ∙ sum_zero (l.c *ℤ (pos 1 *ℤ common s))

  module _ (l m : Line) (f : IsLineFor q s l) (g : IsLineFor q s m) where
    pub constants-proportional : m.d *ℤ l.c ≡ l.d *ℤ m.c
    constants-proportional = proportion l.d m.d l.c m.c (pos 1 *ℤ common s) (combination q (values_by (pos 1) s) -ℤ pos 1 *ℤ common s) still_some (still-value l f) (still-value m g)

    module _ (b : ℕ) (lb : b < length s) (n : get_or s b None ≡ None) where
      vs : List ℤ
      vs = direction_values s ws b lb n

      way : IsDirection s b vs
      unfolding vs
      way = direction s ws b lb n

      along : (k : Line) → IsLineFor q s k → k.d *ℤ (combination q vs -ℤ pos 0) ≡ coefficient_at k b *ℤ way.size
      along k h =
          h.value (pos 0) vs way.count way.holds ∙ zero_left k.c (combination k.coefficients vs)
          ∙ direction-sum s b vs way k.coefficients h.zeros

      free : m.d *ℤ coefficient_at l b ≡ l.d *ℤ coefficient_at m b
      free = proportion l.d m.d (coefficient_at l b) (coefficient_at m b) way.size (combination q vs -ℤ pos 0) (λ e. let a = way.positive in omega (arith, ints)) (along l f) (along m g)

    pub lines-proportional : (b : ℕ) → b < length s → m.d *ℤ coefficient_at l b ≡ l.d *ℤ coefficient_at m b
    lines-proportional b lb = by (basic_or_not (get_or s b None))
      where
        by : ((o : Line) × (get_or s b None ≡ Some o)) ⊎ (get_or s b None ≡ None) → m.d *ℤ coefficient_at l b ≡ l.d *ℤ coefficient_at m b
        by (inr n) = free b lb n
        by (inl h) =
            ap (λ k. m.d *ℤ k) (f.zeros b h.0 h.1)
            ∙ ring (m.d ∷ l.d ∷ []) (times (var 0) (num (pos 0))) (times (var 1) (num (pos 0))) refl
            ∙ ap (λ k. l.d *ℤ k) (sym (g.zeros b h.0 h.1))

    pub lowest-same : IsLowest l → IsLowest m → l ≡ m
    lowest-same ll lm =
        let c = f.count in
        let d = g.count in
        proportional-same l m f.positive g.positive ll lm
        (λ i. product_exchanged m.d l.d i ∷ constants-proportional i ∷ proportional-lists m.d l.d l.coefficients m.coefficients (omega arith) (λ k h. lines-proportional k (omega arith)) i)

-- ---- the slacks of a run's rows
module _ (columns : ℕ) (rs : List (List ℤ)) (w : AreRows columns rs) (steps : ℕ) (t : Table) (r : Reaches columns rs None steps t) where
  pub reached-table : IsTable t.lines
  reached-table = run-table columns (start_table columns rs) r.tables t r.run (start-is_table columns rs w)

  pub reached-length : length t.lines ≡ columns + length rs
  reached-length = run-length columns (start_table columns rs) r.tables t r.run ∙ start-length columns (length rs) rs

  module _ (j : ℕ) (l : j < length rs) where
    pub slack-value : (one : ℤ) (vs : List ℤ) → length vs ≡ length t.lines → Holds one vs t.lines → combination (get_or rs j []) vs -ℤ one ≡ get_or vs (columns + j) (pos 0)
    slack-value one vs c h =
        ring (combination (get_or rs j []) vs ∷ one ∷ []) (minus (var 0) (var 1)) (plus (times (num (negsuc 0)) (var 1)) (var 0)) refl
        ∙ ap (λ k. negsuc 0 *ℤ one +ℤ k) (sym (combination-padded (get_or rs j []) vs (length rs)))
        ∙ sym (start (columns + j) (start_line (length rs) (get_or rs j [])) (start-at columns (length rs) rs (columns + j) j refl l))
        ∙ ring (get_or vs (columns + j) (pos 0) ∷ []) (times (num (pos 1)) (var 0)) (var 0) refl
      where
        start : Holds one vs (start_lines columns (length rs) rs)
        start = run-held columns (start_table columns rs) r.tables t r.run (start-is_table columns rs w) one vs (c ∙ reached-length ∙ sym (start-length columns (length rs) rs)) h

    pub slack-line : (k : Line) → get_or t.lines (columns + j) None ≡ Some k → IsLineFor (get_or rs j []) t.lines k
    slack-line k e =
        let a = reached-table (columns + j) k e in
        record {
          count = a.count;
          positive = a.positive;
          zeros = a.zeros;
          value = λ one vs c h. ap (λ z. k.d *ℤ z) (slack-value one vs c h) ∙ h (columns + j) k e;
        }

    pub idle-constant : (k : Line) → IsLineFor (get_or rs j []) t.lines k → get_or t.lines (columns + j) None ≡ None → k.c ≡ pos 0
    idle-constant k f n =
        zero_factor (pos 1 *ℤ common t.lines) k.c (still_some (get_or rs j []) t.lines reached-table)
        (ring ((pos 1 *ℤ common t.lines) ∷ k.c ∷ []) (times (var 0) (var 1)) (times (var 1) (var 0)) refl
        ∙ sym (still-value (get_or rs j []) t.lines reached-table k f)
        ∙ ap (λ z. k.d *ℤ z) (slack-value (pos 1 *ℤ common t.lines) (values_by (pos 1) t.lines) (length-values (pos 1) t.lines) (values-hold (pos 1) t.lines reached-table) ∙ value-none (pos 1) t.lines (columns + j) n)
        ∙ product_zero k.d)
