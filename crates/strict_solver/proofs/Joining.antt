-- The end of P's run with the line of one more row's slack joined to it, and what the run on P and q makes of it.
--     joins-idle       where q loads nothing, the run on P and q comes to just this table
--     joins-loaded     where q loads a height, that run ends with the table after one pivot of it, on q's slack and that height
use Rattle.std.proofs.Common.{◌≡◌, ◌≢◌, ℕ, zero, suc, ◌+◌, ◌<◌, ◌≤◌, ◌⊎◌, inl, inr, refl, sym, ap, ◌∙◌, subst, arith, ℤ, pos, ◌+ℤ◌, ◌-ℤ◌, ◌*ℤ◌, ◌<ℤ◌, List, [], ◌∷◌, ◌++◌, length, length-append, get_or, Some, None, Option}
use Rattle.std.specs.Prelude.{is_none}
use Rattle.std.proofs.lemmas.Int.{ints}
use Rattle.std.proofs.lemmas.List.{get_or_past, get_or_append_left}
use Rattle.ntfe_model.specs.Solver.{Line, Table, coefficient_at, start_table, next_load, move_of, IsPivot, IsRun, Reaches}
use Rattle.ntfe_model.specs.Solver.Move.{feasible}
use Rattle.strict_solver.specs.Equations.{combination, LineHolds, Holds}
use Rattle.strict_solver.specs.Continuing.{wider, wider_line, IsLowest, IsLineFor, with_row}
use Rattle.strict_solver.proofs.Pivots.{IsLineOf, IsTable, in_table, pivot-held, AreLowest, pivot-lowest, run-keeps}
use Rattle.strict_solver.proofs.Moves.{move_of-feasible}
use Rattle.strict_solver.proofs.Bland.{IsLoaded}
use Rattle.strict_solver.proofs.Runs.{AreRows, start-length, start-is_table, start-loading, run-loading, end-loaded}
use Rattle.strict_solver.proofs.Steps.{step_lines}
use Rattle.strict_solver.proofs.Wider.{zero_after, wider-lowest, wider_none}
use Rattle.strict_solver.proofs.Following.{Follows, load-follows}
use Rattle.strict_solver.proofs.GoingOn.{start-lowest, rows_short, GoesOn, end-length, end-table}
use Rattle.strict_solver.proofs.Deciding.{last-get, wider-sum, end-extends, loads-least, loads-none}
use Rattle.strict_solver.proofs.Unique.{cancel, same-tables}
use Rattle.strict_solver.proofs.Entries.{both_some}

pub row-get : (s : List (Option Line)) (l : Line) (z : ℕ) → z ≢ length s → get_or (with_row s l) z None ≡ wider_line (get_or s z None)
row-get [] l zero n = absurd (n refl)
row-get [] l (suc z) n = refl
row-get (o ∷ s) l zero n = refl
row-get (o ∷ s) l (suc z) n = row-get s l z (λ i. n (ap suc i))

pub row-last : (s : List (Option Line)) (l : Line) → get_or (with_row s l) (length s) None ≡ Some (wider l)
row-last [] l = refl
row-last (o ∷ s) l = row-last s l

pub row-length : (s : List (Option Line)) (l : Line) → length (with_row s l) ≡ suc (length s)
row-length [] l = refl
row-length (o ∷ s) l = ap suc (row-length s l)

from_wider : (o : Option Line) (r : Line) → wider_line o ≡ Some r → (q : Line) × (o ≡ Some q) × (r ≡ wider q)
from_wider None r e = cc
from_wider (Some q) r e = (q, refl, both_some (Some (wider q)) r (wider q) e refl)

narrow-holds : (one t : ℤ) (vs : List ℤ) (z : ℕ) (r : Line) → length r.coefficients ≡ length vs → z < length vs → LineHolds one (vs ++ t ∷ []) z (wider r) → LineHolds one vs z r
narrow-holds one t vs z r l h e = ap (λ v. r.d *ℤ v) (sym (get_or_append_left vs (t ∷ []) (pos 0) z h)) ∙ e ∙ ap (λ k. r.c *ℤ one +ℤ k) (wider-sum r.coefficients vs t l)

module _ (q : List ℤ) (s : List (Option Line)) (l : Line) (w : IsTable s) (low : AreLowest s) (f : IsLineFor q s l) (ll : IsLowest l) where
  at_row : (z : ℕ) (r : Line) → get_or (with_row s l) z None ≡ Some r → ((z ≡ length s) × (r ≡ wider l)) ⊎ ((o : Line) × (z < length s) × (get_or s z None ≡ Some o) × (r ≡ wider o))
  at_row z r e = by (let c : (z ≡ length s) ⊎ (z ≢ length s) = grind arith in c)
    where
      by : (z ≡ length s) ⊎ (z ≢ length s) → ((z ≡ length s) × (r ≡ wider l)) ⊎ ((o : Line) × (z < length s) × (get_or s z None ≡ Some o) × (r ≡ wider o))
      by (inl i) = inl (i, both_some _ r (wider l) e (ap (λ k. get_or (with_row s l) k None) i ∙ row-last s l))
      by (inr n) = let o = from_wider (get_or s z None) r (sym (row-get s l z n) ∙ e) in inr (o.0, in_table s z o.0 o.1, o.1, o.2)

  -- a line of s, or the one that is joined to it
  wide-line : (r : Line) → length r.coefficients ≡ length s → pos 0 <ℤ r.d → ((b : ℕ) (o : Line) → get_or s b None ≡ Some o → coefficient_at r b ≡ pos 0) → IsLineOf (with_row s l) (wider r)
  wide-line r c p h = record {
    count = (let a = row-length s l in let b = length-append r.coefficients (pos 0 ∷ []) in omega arith);
    positive = p;
    zeros = λ b o e. zero_after r.coefficients b ∙ by b (at_row b o e);
  }
    where
      by : (b : ℕ) {o : Line} → ((b ≡ length s) × (o ≡ wider l)) ⊎ ((k : Line) × (b < length s) × (get_or s b None ≡ Some k) × (o ≡ wider k)) → coefficient_at r b ≡ pos 0
      by b (inl i) = get_or_past r.coefficients b (pos 0) (let a = i.0 in omega arith)
      by b (inr i) = h b i.0 i.2

  pub row-table : IsTable (with_row s l)
  row-table z r e = by (at_row z r e)
    where
      by : ((z ≡ length s) × (r ≡ wider l)) ⊎ ((o : Line) × (z < length s) × (get_or s z None ≡ Some o) × (r ≡ wider o)) → IsLineOf (with_row s l) r
      by (inl i) = let P : Line → Type 0 = λ k. IsLineOf (with_row s l) k in subst P (sym i.1) (wide-line l f.count f.positive f.zeros)
      by (inr i) = let P : Line → Type 0 = λ k. IsLineOf (with_row s l) k in let a = w z i.0 i.2 in subst P (sym i.3) (wide-line i.0 a.count a.positive a.zeros)

  pub row-lowest : AreLowest (with_row s l)
  row-lowest z r e = by (at_row z r e)
    where
      by : ((z ≡ length s) × (r ≡ wider l)) ⊎ ((o : Line) × (z < length s) × (get_or s z None ≡ Some o) × (r ≡ wider o)) → IsLowest r
      by (inl i) = subst IsLowest (sym i.1) (wider-lowest l ll)
      by (inr i) = subst IsLowest (sym i.3) (wider-lowest i.0 (low z i.0 i.2))

  pub row-follows : (columns : ℕ) → columns ≤ length s → Follows columns s (with_row s l) (length s)
  row-follows columns c = record {
    longer = row-length s l;
    table = row-table;
    slacks = λ z cz lz. row-get s l z (λ i. omega arith);
    basics = λ z n. ap is_none (row-get s l z n) ∙ wider_none (get_or s z None);
    line = wider l;
    extra = row-last s l;
    other = get_or_past s (length s) None (omega arith);
    place = inl refl;
    cleared = λ j lj le none. absurd (omega arith);
  }

  -- the values at which its rows hold
  pub row-values : (one t : ℤ) (vs : List ℤ) → length vs ≡ length s → Holds one (vs ++ t ∷ []) (with_row s l) → Holds one vs s × (t ≡ combination q vs -ℤ one)
  row-values one t vs c h = (holds, cancel l.d t (combination q vs -ℤ one) (λ e. (let a = f.positive in omega (arith, ints))) (last ∙ sym (f.value one vs c holds)))
    where
      holds : Holds one vs s
      holds z r e =
          let n : z < length s = in_table s z r e in
          narrow-holds one t vs z r ((w z r e).count ∙ sym c) (omega arith) (h z (wider r) (row-get s l z (λ i. omega arith) ∙ ap wider_line e))

      last : l.d *ℤ t ≡ l.c *ℤ one +ℤ combination l.coefficients vs
      last =
          ap (λ v. l.d *ℤ v) (sym (ap (λ k. get_or (vs ++ t ∷ []) k (pos 0)) (sym c) ∙ last-get vs t))
          ∙ h (length s) (wider l) (row-last s l)
          ∙ ap (λ k. l.c *ℤ one +ℤ k) (wider-sum l.coefficients vs t (f.count ∙ sym c))

pub split-last : (n : ℕ) (vs : List ℤ) → length vs ≡ suc n → (ws : List ℤ) × (t : ℤ) × (vs ≡ ws ++ t ∷ []) × (length ws ≡ n)
split-last n [] e = absurd (omega arith)
split-last zero (v ∷ []) e = ([], v, refl, refl)
split-last (suc n) (v ∷ []) e = absurd (omega arith)
split-last zero (v ∷ u ∷ vs) e = absurd (omega arith)
split-last (suc n) (v ∷ u ∷ vs) e = let h = split-last n (u ∷ vs) (omega arith) in (v ∷ h.0, h.1, ap (λ k. v ∷ k) h.2, ap suc h.3)

pub run-lowest : (columns : ℕ) (s : Table) (ts : List Table) (t : Table) → IsRun columns s ts t → AreLowest s.lines → AreLowest t.lines
run-lowest columns = run-keeps columns (λ r. AreLowest r.lines) (λ a b k. pivot-lowest k.0 k.1 a.lines b.lines k.3)

same-basics : (columns : ℕ) (s u v : List (Option Line)) (e : ℕ) → Follows columns s u e → Follows columns s v e → (z : ℕ) → is_none (get_or u z None) ≡ is_none (get_or v z None)
same-basics columns s u v e f g z = by (let c : (z ≡ e) ⊎ (z ≢ e) = grind arith in c)
  where
    by : (z ≡ e) ⊎ (z ≢ e) → is_none (get_or u z None) ≡ is_none (get_or v z None)
    by (inl i) = let P : ℕ → Type 0 = λ k. is_none (get_or u k None) ≡ is_none (get_or v k None) in subst P (sym i) (ap is_none f.extra ∙ ap is_none (sym g.extra))
    by (inr n) = f.basics z n ∙ sym (g.basics z n)

module _ (columns : ℕ) (rs : List (List ℤ)) (q : List ℤ) (w : AreRows columns (rs ++ q ∷ [])) (steps : ℕ) (end : Table) (r : Reaches columns rs None steps end) (g : GoesOn columns rs q end)
    (m : move_of columns end ≡ feasible) (l : Line) (f : IsLineFor q end.lines l) (low : IsLowest l) where
  table_now : IsTable end.lines
  table_now = end-table columns rs q w steps end r

  enough : columns ≤ length end.lines
  enough = let a = end-length columns rs q w steps end r in omega arith

  end_lowest : AreLowest end.lines
  end_lowest = run-lowest columns (start_table columns rs) r.tables end r.run (start-lowest columns (length rs) rs)

  now_lowest : AreLowest g.table.lines
  now_lowest = run-lowest columns (start_table columns (rs ++ q ∷ [])) g.reaches.tables g.table g.reaches.run (start-lowest columns (length (rs ++ q ∷ [])) (rs ++ q ∷ []))

  joined : Follows columns end.lines (with_row end.lines l) (length end.lines)
  joined = row-follows q end.lines l table_now end_lowest f low columns enough

  joined_lowest : AreLowest (with_row end.lines l)
  joined_lowest = row-lowest q end.lines l table_now end_lowest f low

  joined-holds : (one : ℤ) (vs : List ℤ) → length vs ≡ length (with_row end.lines l) → Holds one vs (with_row end.lines l) → Holds one vs g.table.lines
  joined-holds one vs c h =
      let a = split-last (length end.lines) vs (c ∙ row-length end.lines l) in
      let P : List ℤ → Type 0 = λ k. Holds one k (with_row end.lines l) in
      let Q : List ℤ → Type 0 = λ k. Holds one k g.table.lines in
      let R : ℤ → Type 0 = λ k. Holds one (a.0 ++ k ∷ []) g.table.lines in
      let b = row-values q end.lines l table_now end_lowest f low one a.1 a.0 a.3 (subst P a.2 h) in
      subst Q (sym a.2) (subst R (sym b.1) (end-extends columns rs q w steps end r g one a.0 a.3 b.0))

  -- (b) the table with the row, where it loads nothing
  pub joins-idle : ((j : ℕ) → j < columns → get_or end.lines j None ≡ None → coefficient_at l j ≡ pos 0) → (with_row end.lines l ≡ g.table.lines) × (next_load columns g.table.lines g.table.to_load ≡ None)
  joins-idle none = (
    same-tables (with_row end.lines l) g.table.lines (row-length end.lines l ∙ sym g.follows.longer) joined.table g.follows.table joined_lowest now_lowest
        (same-basics columns end.lines (with_row end.lines l) g.table.lines (length end.lines) joined now) joined-holds,
    at.1,
  )
    where
      at : (g.basic ≡ columns + length rs) × (next_load columns g.table.lines g.table.to_load ≡ None)
      at = loads-none columns rs q w steps end r g l f m none

      now : Follows columns end.lines g.table.lines (length end.lines)
      now = let P : ℕ → Type 0 = λ k. Follows columns end.lines g.table.lines k in subst P (at.0 ∙ sym (end-length columns rs q w steps end r)) g.follows

  -- (a) the pivot on the row's slack and the least height that is not basic and that its line has
  pub joins-loaded : (k : ℕ) → k < columns → get_or end.lines k None ≡ None → coefficient_at l k ≢ pos 0 → ((j : ℕ) → j < k → get_or end.lines j None ≡ None → coefficient_at l j ≡ pos 0)
      → IsPivot (length end.lines) k (with_row end.lines l) g.table.lines × (move_of columns g.table ≡ feasible)
  joins-loaded k lk nk some least = (subst P same both.0, at.1)
    where
      P : List (Option Line) → Type 0
      P v = IsPivot (length end.lines) k (with_row end.lines l) v

      at : (g.basic ≡ k) × (move_of columns g.table ≡ feasible)
      at = loads-least columns rs q w steps end r g l f m k lk nk some least

      loaded : IsLoaded columns end.lines
      loaded = end-loaded columns end
          (run-loading columns (start_table columns rs) r.tables end r.run (start-is_table columns rs (rows_short columns rs q w)) (let a = start-length columns (length rs) rs in omega arith) (start-loading columns rs))
          (move_of-feasible columns end m).0

      line : joined.line ≡ wider l
      line = both_some _ joined.line (wider l) joined.extra (row-last end.lines l)

      both : IsPivot (length end.lines) k (with_row end.lines l) (step_lines (length end.lines) k (with_row end.lines l)) × Follows columns end.lines (step_lines (length end.lines) k (with_row end.lines l)) k
      both = load-follows columns k end.lines (with_row end.lines l) table_now end_lowest enough lk (loaded k lk nk) joined
          (λ e. some (sym (zero_after l.coefficients k) ∙ ap (λ o. coefficient_at o k) (sym line) ∙ e))
          (λ j lj n. (loaded j (omega arith) n, ap (λ o. coefficient_at o j) line ∙ zero_after l.coefficients j ∙ least j lj n))

      now : Follows columns end.lines g.table.lines k
      now = let Q : ℕ → Type 0 = λ k. Follows columns end.lines g.table.lines k in subst Q at.0 g.follows

      same : step_lines (length end.lines) k (with_row end.lines l) ≡ g.table.lines
      same = same-tables (step_lines (length end.lines) k (with_row end.lines l)) g.table.lines (both.1.longer ∙ sym g.follows.longer) both.1.table g.follows.table
          (pivot-lowest (length end.lines) k (with_row end.lines l) (step_lines (length end.lines) k (with_row end.lines l)) both.0 joined_lowest) now_lowest
          (same-basics columns end.lines (step_lines (length end.lines) k (with_row end.lines l)) g.table.lines k both.1 now)
          (λ one vs c h. joined-holds one vs (c ∙ both.0.length_same)
          (pivot-held (length end.lines) k (with_row end.lines l) (step_lines (length end.lines) k (with_row end.lines l)) both.0 joined.table one vs (c ∙ both.0.length_same) h))
