-- Which variable is basic beside those of the end of P's run, when the run on P and q follows it: read from the line of q's
-- slack over the variables that are not basic there.
--     IsLineFor columns q s l      l is that line
--     loads-least                  the least height that is not basic with a coefficient in l that is not 0
--     loads-none                   q's slack, where there is no such height
use Rattle.std.proofs.Common.{◌≡◌, ◌≢◌, ℕ, suc, ◌+◌, ◌<◌, ◌≤◌, ◌⊎◌, inl, inr, refl, sym, ap, ◌∙◌, subst, arith, ℤ, pos, negsuc, ◌+ℤ◌, ◌-ℤ◌, ◌*ℤ◌, List, [], ◌∷◌, ◌++◌, replicate, length, length-append, get_or, Some, None, Option}
use Rattle.std.specs.Prelude.{is_none}
use Rattle.std.proofs.lemmas.Int.{ints}
use Rattle.std.proofs.lemmas.List.{get_or_append_left}
use Rattle.ntfe_nums.proofs.Ring.{ring, product_zero, zero_product}
use Rattle.ntfe_nums.proofs.Ring.Expression.{var, num, plus, minus, times}
use Rattle.ntfe_model.specs.Solver.{Line, Table, coefficient_at, start_line, start_table, next_load, move_of, Reaches}
use Rattle.ntfe_model.specs.Solver.Move.{feasible}
use Rattle.strict_solver.specs.Equations.{combination, LineHolds, Holds}
use Rattle.strict_solver.specs.Continuing.{wider, IsLineFor}
use Rattle.strict_solver.proofs.Forms.{zero_factor}
use Rattle.strict_solver.proofs.Pivots.{IsTable, run-holds, run-held}
use Rattle.strict_solver.proofs.Bland.{IsLoaded}
use Rattle.strict_solver.proofs.Runs.{AreRows, start_lines, start-get, start-at, start-length, start-is_table, start-loading, run-loading, end-loaded}
use Rattle.strict_solver.proofs.Directions.{combination-one, combination-more, IsDirection, direction_values, direction, direction-sum}
use Rattle.strict_solver.proofs.GoingOn.{start-wider, rows_short, GoesOn, end-length, end-table, going_on-feasible}
use Rattle.strict_solver.proofs.Entries.{basic_or_not, not_both}
use Rattle.strict_solver.proofs.Feasible.{combination-zeros}
use Rattle.ntfe_nums.proofs.Signs.{product_exchanged}
use Rattle.strict_solver.proofs.Unique.{as_none, zero_left}

-- ---- values of the start
pub last-get : (vs : List ℤ) (t : ℤ) → get_or (vs ++ t ∷ []) (length vs) (pos 0) ≡ t
last-get [] t = refl
last-get (v ∷ vs) t = last-get vs t

last-row : (rs : List (List ℤ)) (q : List ℤ) → get_or (rs ++ q ∷ []) (length rs) [] ≡ q
last-row [] q = refl
last-row (r ∷ rs) q = last-row rs q

combination-front : (es vs : List ℤ) (t : ℤ) → length es ≤ length vs → combination es (vs ++ t ∷ []) ≡ combination es vs
combination-front [] vs t l = refl
combination-front (e ∷ es) [] t l = absurd (omega arith)
combination-front (e ∷ es) (v ∷ vs) t l = ap (λ z. e *ℤ v +ℤ z) (combination-front es vs t (omega arith))

pub combination-padded : (es vs : List ℤ) (n : ℕ) → combination (es ++ replicate n (pos 0)) vs ≡ combination es vs
combination-padded [] vs n = combination-zeros n vs
combination-padded (e ∷ es) [] n = refl
combination-padded (e ∷ es) (v ∷ vs) n = ap (λ z. e *ℤ v +ℤ z) (combination-padded es vs n)

pub wider-sum : (es vs : List ℤ) (t : ℤ) → length es ≡ length vs → combination (es ++ pos 0 ∷ []) (vs ++ t ∷ []) ≡ combination es vs
wider-sum [] [] t l = ap (λ z. z +ℤ pos 0) (zero_product t)
wider-sum [] (v ∷ vs) t l = absurd (omega arith)
wider-sum (e ∷ es) [] t l = absurd (omega arith)
wider-sum (e ∷ es) (v ∷ vs) t l = ap (λ z. e *ℤ v +ℤ z) (wider-sum es vs t (omega arith))

pub wider-holds : (one t : ℤ) (vs : List ℤ) (z : ℕ) (r : Line) → length r.coefficients ≡ length vs → z < length vs → LineHolds one vs z r → LineHolds one (vs ++ t ∷ []) z (wider r)
wider-holds one t vs z r l h e = ap (λ v. r.d *ℤ v) (get_or_append_left vs (t ∷ []) (pos 0) z h) ∙ e ∙ ap (λ k. r.c *ℤ one +ℤ k) (sym (wider-sum r.coefficients vs t l))

pub start-extends : (columns : ℕ) (rs : List (List ℤ)) (q : List ℤ) (one : ℤ) (vs : List ℤ) → AreRows columns (rs ++ q ∷ []) → length vs ≡ columns + length rs → Holds one vs (start_lines columns (length rs) rs)
    → Holds one (vs ++ (combination q vs -ℤ one) ∷ []) (start_lines columns (length (rs ++ q ∷ [])) (rs ++ q ∷ []))
start-extends columns rs q one vs w l h z r e = by (let a = f.2 in let b = one_more in let c : (f.0 < length rs) ⊎ (f.0 ≡ length rs) = grind arith in c)
  where
    f : (j : ℕ) × (z ≡ columns + j) × (j < length (rs ++ q ∷ [])) × (r ≡ start_line (length (rs ++ q ∷ [])) (get_or (rs ++ q ∷ []) j []))
    f = start-get columns (length (rs ++ q ∷ [])) (rs ++ q ∷ []) z r e

    one_more : length (rs ++ q ∷ []) ≡ suc (length rs)
    one_more = let a = length-append rs (q ∷ []) in omega arith

    by : (f.0 < length rs) ⊎ (f.0 ≡ length rs) → LineHolds one (vs ++ (combination q vs -ℤ one) ∷ []) z r
    by (inl i) =
        let row : Line = start_line (length rs) (get_or rs f.0 []) in
        let here = start-at columns (length rs) rs z f.0 f.1 i in
        let same : r ≡ wider row = f.3 ∙ ap (start_line (length (rs ++ q ∷ []))) (get_or_append_left rs (q ∷ []) [] f.0 i) ∙ start-wider (length (rs ++ q ∷ [])) (length rs) (get_or rs f.0 []) one_more in
        let P : Line → Type 0 = λ k. LineHolds one (vs ++ (combination q vs -ℤ one) ∷ []) z k in
        subst P (sym same) (wider-holds one (combination q vs -ℤ one) vs z row
        ((start-is_table columns rs (rows_short columns rs q w) z row here).count ∙ start-length columns (length rs) rs ∙ sym l)
        (let a = f.1 in omega arith) (h z row here))
    by (inr i) =
        let same : r ≡ start_line (length (rs ++ q ∷ [])) q = f.3 ∙ ap (λ j. start_line (length (rs ++ q ∷ [])) (get_or (rs ++ q ∷ []) j [])) i ∙ ap (start_line (length (rs ++ q ∷ []))) (last-row rs q) in
        let P : Line → Type 0 = λ k. LineHolds one (vs ++ (combination q vs -ℤ one) ∷ []) z k in
        let place : z ≡ length vs = (let a = f.1 in omega arith) in
        subst P (sym same)
        (ap (λ k. pos 1 *ℤ get_or (vs ++ (combination q vs -ℤ one) ∷ []) k (pos 0)) place
        ∙ ap (λ k. pos 1 *ℤ k) (last-get vs (combination q vs -ℤ one))
        ∙ ring (combination q vs ∷ one ∷ []) (times (num (pos 1)) (minus (var 0) (var 1))) (plus (times (num (negsuc 0)) (var 1)) (var 0)) refl
        ∙ ap (λ k. negsuc 0 *ℤ one +ℤ k) (sym (combination-padded q (vs ++ (combination q vs -ℤ one) ∷ []) (length (rs ++ q ∷ [])) ∙ combination-front q vs (combination q vs -ℤ one) within)))
      where
        within : length q ≤ length vs
        within = let o = one_more in let a = w (length rs) (omega arith) in let b = ap (λ (k : List ℤ). length k) (last-row rs q) in omega arith

module _ (columns : ℕ) (rs : List (List ℤ)) (q : List ℤ) (w : AreRows columns (rs ++ q ∷ [])) (steps : ℕ) (end : Table) (r : Reaches columns rs None steps end) (g : GoesOn columns rs q end) where
  enough : columns ≤ length end.lines
  enough = let a = end-length columns rs q w steps end r in omega arith

  table_now : IsTable end.lines
  table_now = end-table columns rs q w steps end r

  -- the values of the variables at the end of P's run give those of the table that follows it
  pub end-extends : (one : ℤ) (vs : List ℤ) → length vs ≡ length end.lines → Holds one vs end.lines → Holds one (vs ++ (combination q vs -ℤ one) ∷ []) g.table.lines
  end-extends one vs l h =
      run-holds columns (start_table columns (rs ++ q ∷ [])) g.reaches.tables g.table g.reaches.run (start-is_table columns (rs ++ q ∷ []) w) one (vs ++ (combination q vs -ℤ one) ∷ [])
      (let a = start-length columns (length (rs ++ q ∷ [])) (rs ++ q ∷ []) in
      let b = length-append rs (q ∷ []) in
      let c = length-append vs ((combination q vs -ℤ one) ∷ []) in
      let d = end-length columns rs q w steps end r in
      omega arith)
      (start-extends columns rs q one vs w (l ∙ end-length columns rs q w steps end r)
      (run-held columns (start_table columns rs) r.tables end r.run (start-is_table columns rs (rows_short columns rs q w)) one vs
      (l ∙ end-length columns rs q w steps end r ∙ sym (start-length columns (length rs) rs)) h))

  module _ (l : Line) (f : IsLineFor q end.lines l) (j : ℕ) (lj : j < columns) (nj : get_or end.lines j None ≡ None) where
    within : j < length end.lines
    within = let a = enough in omega arith

    vs : List ℤ
    vs = direction_values end.lines table_now j within nj

    way : IsDirection end.lines j vs
    unfolding vs
    way = direction end.lines table_now j within nj

    t : ℤ
    t = combination q vs -ℤ pos 0

    held : Holds (pos 0) (vs ++ t ∷ []) g.table.lines
    unfolding t
    held = end-extends (pos 0) vs way.count way.holds

    -- what the line says of the slack
    moved : l.d *ℤ t ≡ coefficient_at l j *ℤ way.size
    unfolding t
    moved =
        f.value (pos 0) vs way.count way.holds ∙ zero_left l.c (combination l.coefficients vs)
        ∙ direction-sum end.lines j vs way l.coefficients f.zeros

    -- what the line of the variable beside those of the end says
    line_sum : g.follows.line.d *ℤ get_or (vs ++ t ∷ []) g.basic (pos 0) ≡ coefficient_at g.follows.line j *ℤ way.size +ℤ coefficient_at g.follows.line (length end.lines) *ℤ t
    line_sum =
        held g.basic g.follows.line g.follows.extra
        ∙ zero_left g.follows.line.c (combination g.follows.line.coefficients (vs ++ t ∷ []))
        ∙ combination-more g.follows.line.coefficients vs t
        ∙ (λ i. (combination-one g.follows.line.coefficients vs j (λ k n. each k n (basic_or_not (get_or g.table.lines k None))) ∙ ap (λ v. coefficient_at g.follows.line j *ℤ v) way.at) i
        +ℤ get_or g.follows.line.coefficients (way.count i) (pos 0) *ℤ t)
      where
        none : (o p : Option Line) → is_none o ≡ is_none p → o ≡ None → p ≡ None
        none o None a b = refl
        none None (Some p) a b = cc
        none (Some o) (Some p) a b = cc

        each : (k : ℕ) → k ≢ j → ((o : Line) × (get_or g.table.lines k None ≡ Some o)) ⊎ (get_or g.table.lines k None ≡ None) → (get_or g.follows.line.coefficients k (pos 0) ≡ pos 0) ⊎ (get_or vs k (pos 0) ≡ pos 0)
        each k n (inl h) = inl ((g.follows.table g.basic g.follows.line g.follows.extra).zeros k h.0 h.1)
        each k n (inr h) = inr (way.others k n (none (get_or g.table.lines k None) (get_or end.lines k None) (g.follows.basics k (λ i. not_both _ g.follows.line g.follows.extra (ap (λ z. get_or g.table.lines z None) (sym i) ∙ h))) h))

    size_some : way.size ≢ pos 0
    size_some e = let a = way.positive in omega (arith, ints)

    line_some : g.follows.line.d ≢ pos 0
    line_some e = let a = (g.follows.table g.basic g.follows.line g.follows.extra).positive in omega (arith, ints)

    d_some : l.d ≢ pos 0
    d_some e = let a = f.positive in omega (arith, ints)

    -- the slack does not move where the line has 0, and only there
    still : coefficient_at l j ≡ pos 0 → t ≡ pos 0
    still e = zero_factor l.d t d_some (moved ∙ ap (λ z. z *ℤ way.size) e ∙ zero_product way.size)

    stays : t ≡ pos 0 → coefficient_at l j ≡ pos 0
    stays e = zero_factor way.size (coefficient_at l j) size_some (product_exchanged way.size (coefficient_at l j) ∙ sym moved ∙ ap (λ z. l.d *ℤ z) e ∙ product_zero l.d)

    zeros_here : (b : ℕ) (o : Line) → get_or g.table.lines b None ≡ Some o → coefficient_at g.follows.line b ≡ pos 0
    zeros_here = (g.follows.table g.basic g.follows.line g.follows.extra).zeros

    no_terms : (a b m t : ℤ) → a ≡ pos 0 → b ≡ pos 0 → a *ℤ m +ℤ b *ℤ t ≡ pos 0
    no_terms a b m t e h = (λ i. e i *ℤ m +ℤ h i *ℤ t) ∙ ring (m ∷ t ∷ []) (plus (times (num (pos 0)) (var 0)) (times (num (pos 0)) (var 1))) (num (pos 0)) refl

    second : (a b m t : ℤ) → a ≡ pos 0 → a *ℤ m +ℤ b *ℤ t ≡ b *ℤ t
    second a b m t e = ap (λ z. z *ℤ m +ℤ b *ℤ t) e ∙ ring (m ∷ b ∷ t ∷ []) (plus (times (num (pos 0)) (var 0)) (times (var 1) (var 2))) (times (var 1) (var 2)) refl

    -- where the new slack is basic, its line has no height
    pub idle-zero : g.basic ≡ length end.lines → next_load columns g.table.lines g.table.to_load ≡ None → coefficient_at l j ≡ pos 0
    idle-zero e done = stays (zero_factor g.follows.line.d t line_some (ap (λ v. g.follows.line.d *ℤ v) (sym value) ∙ line_sum
        ∙ no_terms (coefficient_at g.follows.line j) (coefficient_at g.follows.line (length end.lines)) way.size t gone (zeros_here (length end.lines) g.follows.line (ap (λ z. get_or g.table.lines z None) (sym e) ∙ g.follows.extra))))
      where
        value : get_or (vs ++ t ∷ []) g.basic (pos 0) ≡ t
        value = ap (λ k. get_or (vs ++ t ∷ []) k (pos 0)) (e ∙ sym way.count) ∙ last-get vs t

        loaded : IsLoaded columns g.table.lines
        loaded = end-loaded columns g.table
            (run-loading columns (start_table columns (rs ++ q ∷ [])) g.reaches.tables g.table g.reaches.run (start-is_table columns (rs ++ q ∷ []) w) (let a = start-length columns (length (rs ++ q ∷ [])) (rs ++ q ∷ []) in omega arith) (start-loading columns (rs ++ q ∷ []))) done

        gone : coefficient_at g.follows.line j ≡ pos 0
        gone = loaded j lj (as_none _ _ (g.follows.basics j (λ i. (let a = within in omega arith))) nj) g.basic g.follows.line (let a = enough in omega arith) (let a = g.follows.longer in omega arith) g.follows.extra

    -- where a height is, the line has it
    pub loaded-some : g.basic ≡ j → coefficient_at l j ≢ pos 0
    loaded-some e h = size_some (zero_factor g.follows.line.d way.size line_some (ap (λ v. g.follows.line.d *ℤ v) (sym value) ∙ line_sum
        ∙ second (coefficient_at g.follows.line j) (coefficient_at g.follows.line (length end.lines)) way.size t here
        ∙ ap (λ z. coefficient_at g.follows.line (length end.lines) *ℤ z) (still h) ∙ product_zero (coefficient_at g.follows.line (length end.lines))))
      where
        value : get_or (vs ++ t ∷ []) g.basic (pos 0) ≡ way.size
        value = ap (λ k. get_or (vs ++ t ∷ []) k (pos 0)) e ∙ get_or_append_left vs (t ∷ []) (pos 0) j (let a = way.count in let b = within in omega arith) ∙ way.at

        here : coefficient_at g.follows.line j ≡ pos 0
        here = zeros_here j g.follows.line (ap (λ z. get_or g.table.lines z None) (sym e) ∙ g.follows.extra)

    new_some : g.basic ≡ j → coefficient_at g.follows.line (length end.lines) ≢ pos 0
    new_some e h = size_some (zero_factor g.follows.line.d way.size line_some (ap (λ v. g.follows.line.d *ℤ v) (sym value) ∙ line_sum
        ∙ no_terms (coefficient_at g.follows.line j) (coefficient_at g.follows.line (length end.lines)) way.size t here h))
      where
        value : get_or (vs ++ t ∷ []) g.basic (pos 0) ≡ way.size
        value = ap (λ k. get_or (vs ++ t ∷ []) k (pos 0)) e ∙ get_or_append_left vs (t ∷ []) (pos 0) j (let a = way.count in let b = within in omega arith) ∙ way.at

        here : coefficient_at g.follows.line j ≡ pos 0
        here = zeros_here j g.follows.line (ap (λ z. get_or g.table.lines z None) (sym e) ∙ g.follows.extra)

    -- and none before it
    earlier-zero : j < g.basic → g.basic < columns → coefficient_at g.follows.line (length end.lines) ≢ pos 0 → coefficient_at l j ≡ pos 0
    earlier-zero lb lc some = stays (zero_factor (coefficient_at g.follows.line (length end.lines)) t some
        (sym (second (coefficient_at g.follows.line j) (coefficient_at g.follows.line (length end.lines)) way.size t (g.follows.cleared j lb lc nj).1) ∙ sym line_sum
        ∙ ap (λ v. g.follows.line.d *ℤ v) value ∙ product_zero g.follows.line.d))
      where
        value : get_or (vs ++ t ∷ []) g.basic (pos 0) ≡ pos 0
        value = get_or_append_left vs (t ∷ []) (pos 0) g.basic (let a = way.count in let b = enough in omega arith) ∙ way.others g.basic (λ i. omega arith) g.follows.other

  module _ (l : Line) (f : IsLineFor q end.lines l) (m : move_of columns end ≡ feasible) where
    ends : (next_load columns g.table.lines g.table.to_load ≡ None) × ((g.basic ≡ columns + length rs) ⊎ ((g.basic < columns) × (move_of columns g.table ≡ feasible)))
    ends = going_on-feasible columns rs q w steps end r m g

    at_last : g.basic ≡ columns + length rs → g.basic ≡ length end.lines
    at_last e = e ∙ sym (end-length columns rs q w steps end r)

    -- (a) the least height that is not basic and that the line has is loaded, and the run ends
    pub loads-least : (k : ℕ) → k < columns → get_or end.lines k None ≡ None → coefficient_at l k ≢ pos 0 → ((j : ℕ) → j < k → get_or end.lines j None ≡ None → coefficient_at l j ≡ pos 0)
        → (g.basic ≡ k) × (move_of columns g.table ≡ feasible)
    loads-least k lk nk some least = by ends.1
      where
        by : (g.basic ≡ columns + length rs) ⊎ ((g.basic < columns) × (move_of columns g.table ≡ feasible)) → (g.basic ≡ k) × (move_of columns g.table ≡ feasible)
        by (inl e) = absurd (some (idle-zero l f k lk nk (at_last e) ends.0))
        by (inr h) = (at (let c : (g.basic ≡ k) ⊎ (g.basic < k) ⊎ (k < g.basic) = grind arith in c), h.1)
          where
            at : (g.basic ≡ k) ⊎ (g.basic < k) ⊎ (k < g.basic) → g.basic ≡ k
            at (inl e) = e
            at (inr (inl i)) = absurd (loaded-some l f g.basic h.0 g.follows.other refl (least g.basic i g.follows.other))
            at (inr (inr i)) = absurd (some (earlier-zero l f k lk nk i h.0 (new_some l f g.basic h.0 g.follows.other refl)))

    -- (b) where there is none, the new slack is basic, and nothing is left to be loaded
    pub loads-none : ((j : ℕ) → j < columns → get_or end.lines j None ≡ None → coefficient_at l j ≡ pos 0) → (g.basic ≡ columns + length rs) × (next_load columns g.table.lines g.table.to_load ≡ None)
    loads-none none = (by ends.1, ends.0)
      where
        by : (g.basic ≡ columns + length rs) ⊎ ((g.basic < columns) × (move_of columns g.table ≡ feasible)) → g.basic ≡ columns + length rs
        by (inl e) = e
        by (inr h) = absurd (loaded-some l f g.basic h.0 g.follows.other refl (none g.basic h.0 g.follows.other))
