-- The run on rows P and one more row q goes on from the run on P: it comes to a table that follows the end of P's run.
--     goes_on                 each table that the run on P reaches is followed by one that the run on P and q reaches
--     going_on-feasible       where P's run ends feasible, that table has nothing left to load: either q's slack is basic in it, or the run ends there, feasible
--     going_on-infeasible     where P's run ends infeasible, so does that of P and q, with the same multipliers
use Rattle.std.proofs.Common.{◌≡◌, ◌≢◌, ℕ, zero, suc, ◌+◌, ◌-◌, ◌<◌, ◌≤◌, ◌==◌, ◌⊎◌, inl, inr, false, cond, refl, sym, ap, ◌∙◌, subst, arith, ℤ, pos, negsuc, int_lt, List, [], ◌∷◌, ◌++◌, map, filter, replicate, length, length-append, get_or, Some, None}
use Rattle.std.specs.Prelude.{is_none, unsigned_abs}
use Rattle.std.specs.Option.{option_map_or}
use Rattle.std.specs.List.{range_with_len}
use Rattle.std.specs.Int.{◌∣◌}
use Rattle.std.proofs.lemmas.Bool.Decides.{nat_tests}
use Rattle.std.proofs.lemmas.List.{get_or_past, get_or_append_left}
use Rattle.std.proofs.Math.Nat.{eq-one_of_dvd-one}
use Rattle.ntfe_model.specs.Solver.{Table, coefficient_at, IsPivot, start_line, start_table, next_load, moving, move_of, multiplier_at, multipliers_of, IsStepOf, IsRun, Reaches, IsInfeasible}
use Rattle.ntfe_model.specs.Solver.Move.{pivot, feasible, infeasible}
use Rattle.strict_solver.specs.Continuing.{wider, wider_line, IsLowest}
use Rattle.strict_solver.proofs.Moves.{IsIn, loads, moves_same, first_slack-found, next_load-found, moving-pivot, move_of-pivot, move_of-feasible, move_of-infeasible, moving-infeasible, IsGone, IsLoad, IsFirstSlack, IsRising}
use Rattle.strict_solver.proofs.Pivots.{IsTable, get_here, get_there, pivot-table, run-table, run-length, AreLowest, pivot-lowest}
use Rattle.strict_solver.proofs.Runs.{AreRows, start_lines, start-get, start-at, start-length, start-is_table, IsLoading, start-loading, step-loading, start-none}
use Rattle.strict_solver.proofs.Multipliers.{more_left}
use Rattle.strict_solver.proofs.Steps.{step_lines}
use Rattle.strict_solver.proofs.Wider.{zero_after, wider_none}
use Rattle.strict_solver.proofs.Following.{Follows, pivot-follows, load-follows}
use Rattle.strict_solver.proofs.Chosen.{IsLastLoad, next_follows, moving_follows}
use Rattle.strict_solver.proofs.Entries.{both_some, none_of}

-- ---- the starts
zeros_more : (n : ℕ) → replicate (suc n) (pos 0) ≡ replicate n (pos 0) ++ pos 0 ∷ []
zeros_more zero = refl
zeros_more (suc n) = ap (λ zs. pos 0 ∷ zs) (zeros_more n)

row_more : (r zs : List ℤ) → r ++ (zs ++ pos 0 ∷ []) ≡ (r ++ zs) ++ pos 0 ∷ []
row_more [] zs = refl
row_more (z ∷ r) zs = ap (λ ys. z ∷ ys) (row_more r zs)

pub start-wider : (m n : ℕ) (r : List ℤ) → m ≡ suc n → start_line m r ≡ wider (start_line n r)
start-wider m n r e = ap (λ k. start_line k r) e ∙ (λ i. record { d = pos 1; c = negsuc 0; coefficients = (ap (λ zs. r ++ zs) (zeros_more n) ∙ row_more r (replicate n (pos 0))) i })

pub start-lowest : (columns n : ℕ) (rs : List (List ℤ)) → AreLowest (start_lines columns n rs)
start-lowest columns n rs z r e =
    let h = start-get columns n rs z r e in
    subst IsLowest (sym h.3) (λ m a. one m (a 1 (pos 0) (omega arith)))
  where
    one : (m : ℕ) → m ∣ 1 → m ≡ 1
    one m d = eq-one_of_dvd-one d

module _ (columns : ℕ) (rs : List (List ℤ)) (q : List ℤ) (w : AreRows columns (rs ++ q ∷ [])) where
  one_more : length (rs ++ q ∷ []) ≡ suc (length rs)
  one_more = let a = length-append rs (q ∷ []) in omega arith

  pub start-follows : Follows columns (start_lines columns (length rs) rs) (start_lines columns (length (rs ++ q ∷ [])) (rs ++ q ∷ [])) (length (start_lines columns (length rs) rs))
  start-follows = record {
    longer = (let a = start-length columns (length rs) rs in let b = start-length columns (length (rs ++ q ∷ [])) (rs ++ q ∷ []) in let c = one_more in omega arith);
    table = start-is_table columns (rs ++ q ∷ []) w;
    slacks = slack;
    basics = λ z n. basic z n (let c : (z < columns) ⊎ ((columns ≤ z) × (z < length (start_lines columns (length rs) rs))) ⊎ (length (start_lines columns (length rs) rs) < z) = grind arith in c);
    line = start_line (length (rs ++ q ∷ [])) (get_or (rs ++ q ∷ []) (length rs) []);
    extra = start-at columns (length (rs ++ q ∷ [])) (rs ++ q ∷ []) (length (start_lines columns (length rs) rs)) (length rs) (start-length columns (length rs) rs) (let c = one_more in omega arith);
    other = get_or_past (start_lines columns (length rs) rs) (length (start_lines columns (length rs) rs)) None (omega arith);
    place = inl refl;
    cleared = λ j lj le none. absurd (let a = start-length columns (length rs) rs in omega arith);
  }
    where
      slack : (z : ℕ) → columns ≤ z → z < length (start_lines columns (length rs) rs) → get_or (start_lines columns (length (rs ++ q ∷ [])) (rs ++ q ∷ [])) z None ≡ wider_line (get_or (start_lines columns (length rs) rs) z None)
      slack z c l =
          let a = start-length columns (length rs) rs in
          let o = one_more in
          let e : z ≡ columns + (z - columns) = omega arith in
          let j : z - columns < length rs = omega arith in
          start-at columns (length (rs ++ q ∷ [])) (rs ++ q ∷ []) z (z - columns) e (omega arith)
          ∙ ap (λ r. Some (start_line (length (rs ++ q ∷ [])) r)) (get_or_append_left rs (q ∷ []) [] (z - columns) j)
          ∙ ap Some (start-wider (length (rs ++ q ∷ [])) (length rs) (get_or rs (z - columns) []) one_more)
          ∙ ap wider_line (sym (start-at columns (length rs) rs z (z - columns) e j))

      basic : (z : ℕ) → z ≢ length (start_lines columns (length rs) rs) → (z < columns) ⊎ ((columns ≤ z) × (z < length (start_lines columns (length rs) rs))) ⊎ (length (start_lines columns (length rs) rs) < z)
          → is_none (get_or (start_lines columns (length (rs ++ q ∷ [])) (rs ++ q ∷ [])) z None) ≡ is_none (get_or (start_lines columns (length rs) rs) z None)
      basic z n (inl l) = ap is_none (start-none columns (length (rs ++ q ∷ [])) (rs ++ q ∷ []) z l ∙ sym (start-none columns (length rs) rs z l))
      basic z n (inr (inl l)) = ap is_none (slack z l.0 l.1) ∙ wider_none (get_or (start_lines columns (length rs) rs) z None)
      basic z n (inr (inr l)) =
          let a = start-length columns (length rs) rs in
          let b = start-length columns (length (rs ++ q ∷ [])) (rs ++ q ∷ []) in
          let c = one_more in
          ap is_none (get_or_past (start_lines columns (length (rs ++ q ∷ [])) (rs ++ q ∷ [])) z None (omega arith) ∙ sym (get_or_past (start_lines columns (length rs) rs) z None (omega arith)))

-- ---- what is to be loaded, in order
above_range : (a n k : ℕ) → IsIn k (range_with_len a n) → a ≤ k
above_range a zero k i = absurd i
above_range a (suc n) k (inl e) = omega arith
above_range a (suc n) k (inr i) = let h = above_range (a + 1) n k i in omega arith

range-rising : (a n : ℕ) → IsRising (range_with_len a n)
range-rising a zero = tt
range-rising a (suc n) = ((λ j i. (let h = above_range (a + 1) n j i in omega arith)), range-rising (a + 1) n)

-- ---- runs
pub record HasFollowed (columns : ℕ) (s u : Table) (e : ℕ) : Type 0 where
  pub follows : Follows columns s.lines u.lines e
  pub next : next_load columns s.lines u.to_load ≡ next_load columns s.lines s.to_load
  pub small : (k : ℕ) → IsIn k u.to_load → k < columns
  pub rising : IsRising u.to_load
  pub loading : IsLoading columns u

-- and the last slack is not to be loaded before a slack of s
pub record IsEven (columns : ℕ) (s u : Table) (e : ℕ) : Type 0 where
  pub followed : HasFollowed columns s u e
  pub even : next_load columns u.lines u.to_load ≡ next_load columns s.lines s.to_load

-- from u the run comes to a table that follows s
pub record CatchesUp (columns : ℕ) (s u : Table) : Type 0 where
  pub tables : List Table
  pub v : Table
  pub e : ℕ
  pub run : IsRun columns u tables v
  pub is : IsEven columns s v e

pub run-append : (columns : ℕ) (s : Table) (ts : List Table) (t : Table) (us : List Table) (u : Table) → IsRun columns s ts t → IsRun columns t us u → IsRun columns s (ts ++ us) u
run-append columns s [] t us u m n = let P : Table → Type 0 = λ k. IsRun columns k us u in subst P (sym m) n
run-append columns s (r ∷ ts) t us u m n = (m.0, run-append columns r ts t us u m.1 n)

pub catch-up : (columns : ℕ) (s u : Table) (e : ℕ) → IsTable s.lines → AreLowest s.lines → columns ≤ length s.lines → HasFollowed columns s u e → CatchesUp columns s u
catch-up columns s u e w low c h = by (next_follows columns s.lines u.lines e w c h.follows u.to_load)
  where
    by : (next_load columns u.lines u.to_load ≡ next_load columns s.lines u.to_load) ⊎ IsLastLoad columns s.lines u.lines e w c h.follows u.to_load → CatchesUp columns s u
    by (inl a) = record { tables = []; v = u; e = e; run = refl; is = record { followed = h; even = a ∙ h.next } }
    by (inr l) = record { tables = after ∷ []; v = after; e = l.k; run = ((length s.lines, l.k, move, both.0), refl); is = record { followed = now; even = even } }
      where
        f : Follows columns s.lines u.lines (length s.lines)
        f = let P : ℕ → Type 0 = λ k. Follows columns s.lines u.lines k in subst P l.last h.follows

        load : IsLoad columns u.lines u.to_load (length s.lines) l.k l.rest
        load = next_load-found columns u.lines u.to_load (length s.lines) l.k l.rest l.next

        small : l.k < columns
        small = h.small l.k load.due

        same_line : h.follows.line ≡ f.line
        same_line = both_some _ h.follows.line f.line h.follows.extra (ap (λ z. get_or u.lines z None) l.last ∙ f.extra)

        some : coefficient_at f.line l.k ≢ pos 0
        some i = l.some (ap (λ r. coefficient_at r l.k) same_line ∙ i)

        order : ((j : ℕ) → IsIn j l.rest → l.k < j) × IsRising l.rest
        order = (next_load-found columns u.lines u.to_load (length s.lines) l.k l.rest l.next).rising h.rising

        before : (j : ℕ) → j < l.k → get_or s.lines j None ≡ None → IsGone columns s.lines j × (coefficient_at f.line j ≡ pos 0)
        before j lj none = ((λ z r cz lz e. sym (zero_after r.coefficients j) ∙ gone z (wider r) cz (let a = f.longer in omega arith) (f.slacks z cz lz ∙ ap wider_line e)), gone (length s.lines) f.line c (let a = f.longer in omega arith) f.extra)
          where
            gone : IsGone columns u.lines j
            gone = at (h.loading j (let a = small in omega arith) (none_of _ (f.basics j (λ i. (let a = small in omega arith)) ∙ ap is_none none)))
              where
                on : (j ≡ l.k) ⊎ IsIn j l.rest ⊎ IsGone columns u.lines j → IsGone columns u.lines j
                on (inl i) = absurd (omega arith)
                on (inr (inl i)) = absurd (let a = order.0 j i in omega arith)
                on (inr (inr g)) = g

                at : IsIn j u.to_load ⊎ IsGone columns u.lines j → IsGone columns u.lines j
                at (inl i) = on (load.others j i)
                at (inr g) = g

        both : IsPivot (length s.lines) l.k u.lines (step_lines (length s.lines) l.k u.lines) × Follows columns s.lines (step_lines (length s.lines) l.k u.lines) l.k
        both = load-follows columns l.k s.lines u.lines w low c small l.gone f some before

        after : Table
        after = record { lines = step_lines (length s.lines) l.k u.lines; to_load = l.rest }

        move : move_of columns u ≡ pivot (length s.lines) l.k l.rest
        move = ap (λ o. option_map_or loads o (moving columns u.lines)) l.next

        loading : IsLoading columns (record { lines = step_lines (length s.lines) l.k u.lines; to_load = l.rest })
        loading = step-loading columns u after (length s.lines, l.k, move, both.0) h.follows.table (let a = h.follows.longer in omega arith) h.loading

        now : HasFollowed columns s (record { lines = step_lines (length s.lines) l.k u.lines; to_load = l.rest }) l.k
        now = record { follows = both.1; next = l.skipped ∙ h.next; small = λ k i. h.small k (load.fewer k i); rising = order.1; loading = loading }

        even : next_load columns (step_lines (length s.lines) l.k u.lines) l.rest ≡ next_load columns s.lines s.to_load
        even = at (next_follows columns s.lines (step_lines (length s.lines) l.k u.lines) l.k w c both.1 l.rest)
          where
            at : (next_load columns (step_lines (length s.lines) l.k u.lines) l.rest ≡ next_load columns s.lines l.rest) ⊎ IsLastLoad columns s.lines (step_lines (length s.lines) l.k u.lines) l.k w c both.1 l.rest
                → next_load columns (step_lines (length s.lines) l.k u.lines) l.rest ≡ next_load columns s.lines s.to_load
            at (inl a) = a ∙ l.skipped ∙ h.next
            at (inr o) = absurd (let a = o.last in let b = small in omega arith)

-- a pivot of s is one of u
module _ (columns : ℕ) (s t u : Table) (e : ℕ) (w : IsTable s.lines) (c : columns ≤ length s.lines) (m : IsStepOf columns s t) (h : IsEven columns s u e) where
  record Chosen : Type 0 where
    slack : columns ≤ m.0
    move : move_of columns u ≡ pivot m.0 m.1 t.to_load
    small : (k : ℕ) → IsIn k t.to_load → k < columns
    rising : IsRising t.to_load

  chosen : Chosen
  chosen = by (move_of-pivot columns s m.0 m.1 t.to_load m.2)
    where
      by : (next_load columns s.lines s.to_load ≡ Some (m.0, m.1, t.to_load)) ⊎ ((next_load columns s.lines s.to_load ≡ None) × (moving columns s.lines ≡ pivot m.0 m.1 t.to_load)) → Chosen
      by (inl a) =
          let l = next_load-found columns s.lines u.to_load m.0 m.1 t.to_load (h.followed.next ∙ a) in
          record { slack = l.slack; move = ap (λ o. option_map_or loads o (moving columns u.lines)) (h.even ∙ a); small = λ k i. h.followed.small k (l.fewer k i); rising = ((next_load-found columns s.lines u.to_load m.0 m.1 t.to_load (h.followed.next ∙ a)).rising h.followed.rising).1 }
      by (inr a) = record {
        slack = (first_slack-found columns (λ r. int_lt r.c (pos 0)) s.lines m.0 (moving-pivot columns s.lines m.0 m.1 t.to_load a.1).0.leaving).slack;
        move = ap (λ o. option_map_or loads o (moving columns u.lines)) (h.even ∙ a.0) ∙ on (moving_follows columns s.lines u.lines e w c h.followed.follows);
        small = λ k i. absurd (let P : List ℕ → Type 0 = λ l. IsIn k l in subst P (moving-pivot columns s.lines m.0 m.1 t.to_load a.1).1 i);
        rising = subst IsRising (sym (moving-pivot columns s.lines m.0 m.1 t.to_load a.1).1) tt;
      }
        where
          on : (moving columns u.lines ≡ moving columns s.lines) ⊎ ((e ≡ length s.lines) × (moving columns s.lines ≡ feasible)) → moving columns u.lines ≡ pivot m.0 m.1 t.to_load
          on (inl b) = b ∙ a.1
          on (inr b) = absurd (moves_same _ _ (sym b.1 ∙ a.1))

  both : IsPivot m.0 m.1 u.lines (step_lines m.0 m.1 u.lines) × Follows columns t.lines (step_lines m.0 m.1 u.lines) e
  both = pivot-follows columns m.0 m.1 s.lines t.lines u.lines e w c chosen.slack m.3 h.followed.follows

  pub step-follows : (v : Table) × IsStepOf columns u v × HasFollowed columns t v e
  step-follows = (
    record { lines = step_lines m.0 m.1 u.lines; to_load = t.to_load },
    (m.0, m.1, chosen.move, both.0),
    record {
      follows = both.1;
      next = refl;
      small = chosen.small;
      rising = chosen.rising;
      loading = step-loading columns u (record { lines = step_lines m.0 m.1 u.lines; to_load = t.to_load }) (m.0, m.1, chosen.move, both.0) h.followed.follows.table (let a = h.followed.follows.longer in omega arith) h.followed.loading;
    },
  )

pub run-follows : (columns : ℕ) (s : Table) (ts : List Table) (t : Table) (u : Table) (e : ℕ) → IsTable s.lines → AreLowest s.lines → columns ≤ length s.lines → IsRun columns s ts t → HasFollowed columns s u e → CatchesUp columns t u
run-follows columns s [] t u e w low c m h = let P : Table → Type 0 = λ k. CatchesUp columns k u in subst P m (catch-up columns s u e w low c h)
run-follows columns s (r ∷ ts) t u e w low c m h =
    let a = catch-up columns s u e w low c h in
    let b = step-follows columns s r a.v a.e w c m.0 a.is in
    let d = run-follows columns r ts t b.0 a.e (pivot-table m.0.0 m.0.1 s.lines r.lines m.0.3 w) (pivot-lowest m.0.0 m.0.1 s.lines r.lines m.0.3 low) (let l = m.0.3.length_same in omega arith) m.1 b.2 in
    record { tables = a.tables ++ b.0 ∷ d.tables; v = d.v; e = d.e; run = run-append columns u a.tables a.v (b.0 ∷ d.tables) d.v a.run (b.1, d.run); is = d.is }

-- ---- the run on one more row
pub record GoesOn (columns : ℕ) (rs : List (List ℤ)) (q : List ℤ) (end : Table) : Type 0 where
  pub steps : ℕ
  pub table : Table
  pub reaches : Reaches columns (rs ++ q ∷ []) None steps table
  -- the basic variable beside those of end
  pub basic : ℕ
  pub follows : Follows columns end.lines table.lines basic
  pub even : next_load columns table.lines table.to_load ≡ next_load columns end.lines end.to_load

below_range : (a n k : ℕ) → IsIn k (range_with_len a n) → k < a + n
below_range a zero k i = absurd i
below_range a (suc n) k (inl e) = omega arith
below_range a (suc n) k (inr i) = let h = below_range (a + 1) n k i in omega arith

pub rows_short : (columns : ℕ) (rs : List (List ℤ)) (q : List ℤ) → AreRows columns (rs ++ q ∷ []) → AreRows columns rs
rows_short columns rs q w j l = ap (λ (r : List ℤ). length r) (sym (get_or_append_left rs (q ∷ []) [] j l)) ∙ w j (let a = length-append rs (q ∷ []) in omega arith)

module _ (columns : ℕ) (rs : List (List ℤ)) (q : List ℤ) (w : AreRows columns (rs ++ q ∷ [])) where
  pub goes_on : (steps : ℕ) (end : Table) → Reaches columns rs None steps end → GoesOn columns rs q end
  goes_on steps end r = record { steps = length d.tables; table = d.v; reaches = record { tables = d.tables; count = refl; run = d.run; narrow = λ k s l e. tt }; basic = d.e; follows = d.is.followed.follows; even = d.is.even }
    where
      d : CatchesUp columns end (start_table columns (rs ++ q ∷ []))
      d = run-follows columns (start_table columns rs) r.tables end (start_table columns (rs ++ q ∷ [])) (length (start_lines columns (length rs) rs))
          (start-is_table columns rs (rows_short columns rs q w)) (start-lowest columns (length rs) rs) (let a = start-length columns (length rs) rs in omega arith) r.run
          (record { follows = start-follows columns rs q w; next = refl; small = λ k i. (let a = below_range 0 columns k i in omega arith); rising = range-rising 0 columns; loading = start-loading columns (rs ++ q ∷ []) })

  module _ (steps : ℕ) (end : Table) (r : Reaches columns rs None steps end) where
    pub end-length : length end.lines ≡ columns + length rs
    end-length = run-length columns (start_table columns rs) r.tables end r.run ∙ start-length columns (length rs) rs

    pub end-table : IsTable end.lines
    end-table = run-table columns (start_table columns rs) r.tables end r.run (start-is_table columns rs (rows_short columns rs q w))

    enough : columns ≤ length end.lines
    enough = let a = end-length in omega arith

    -- nothing is left to be loaded, and if the last slack is not basic, the run ends
    pub going_on-feasible : move_of columns end ≡ feasible → (g : GoesOn columns rs q end)
        → (next_load columns g.table.lines g.table.to_load ≡ None) × ((g.basic ≡ columns + length rs) ⊎ ((g.basic < columns) × (move_of columns g.table ≡ feasible)))
    going_on-feasible f g = (done, by g.follows.place)
      where
        m : (next_load columns end.lines end.to_load ≡ None) × (moving columns end.lines ≡ feasible)
        m = move_of-feasible columns end f

        done : next_load columns g.table.lines g.table.to_load ≡ None
        done = g.even ∙ m.0

        by : (g.basic ≡ length end.lines) ⊎ ((g.basic < columns) × IsGone columns end.lines g.basic) → (g.basic ≡ columns + length rs) ⊎ ((g.basic < columns) × (move_of columns g.table ≡ feasible))
        by (inl i) = inl (i ∙ end-length)
        by (inr i) = inr (i.0, ap (λ o. option_map_or loads o (moving columns g.table.lines)) done ∙ at (moving_follows columns end.lines g.table.lines g.basic end-table enough g.follows))
          where
            at : (moving columns g.table.lines ≡ moving columns end.lines) ⊎ ((g.basic ≡ length end.lines) × (moving columns end.lines ≡ feasible)) → moving columns g.table.lines ≡ feasible
            at (inl a) = a ∙ m.1
            at (inr a) = absurd (let b = a.0 in let c = i.0 in let d = enough in omega arith)

  pub going_on-infeasible : (ms : List (ℕ × ℤ)) → IsInfeasible columns rs None ms → IsInfeasible columns (rs ++ q ∷ []) None ms
  going_on-infeasible ms f = record {
    steps = g.steps;
    end = g.table;
    reaches = g.reaches;
    narrow = tt;
    slack = f.slack;
    move = ap (λ o. option_map_or loads o (moving columns g.table.lines)) (g.even ∙ m.0) ∙ at (moving_follows columns f.end.lines g.table.lines g.basic table enough_now g.follows);
    row = wider f.row;
    is = get_there g.table.lines f.slack (wider f.row) (g.follows.slacks f.slack x.slack x.below ∙ ap wider_line here.0);
    multipliers_are = f.multipliers_are ∙ sym multipliers;
  }
    where
      g : GoesOn columns rs q f.end
      g = goes_on f.steps f.end f.reaches

      m : (next_load columns f.end.lines f.end.to_load ≡ None) × (moving columns f.end.lines ≡ infeasible f.slack)
      m = move_of-infeasible columns f.end f.slack f.move

      table : IsTable f.end.lines
      table = end-table f.steps f.end f.reaches

      enough_now : columns ≤ length f.end.lines
      enough_now = enough f.steps f.end f.reaches

      at : (moving columns g.table.lines ≡ moving columns f.end.lines) ⊎ ((g.basic ≡ length f.end.lines) × (moving columns f.end.lines ≡ feasible)) → moving columns g.table.lines ≡ infeasible f.slack
      at (inl a) = a ∙ m.1
      at (inr a) = absurd (moves_same _ _ (sym a.1 ∙ m.1))

      x : IsFirstSlack columns (λ r. int_lt r.c (pos 0)) f.end.lines f.slack
      x = first_slack-found columns (λ r. int_lt r.c (pos 0)) f.end.lines f.slack (moving-infeasible columns f.end.lines f.slack m.1).0

      here : (get_or f.end.lines f.slack None ≡ Some f.row) × (f.slack < length f.end.lines)
      here = get_here f.end.lines f.slack (Some f.row) f.is

      multipliers : multipliers_of columns (length (rs ++ q ∷ [])) f.slack (wider f.row) ≡ multipliers_of columns (length rs) f.slack f.row
      multipliers =
          ap (λ n. multipliers_of columns n f.slack (wider f.row)) (let a = length-append rs (q ∷ []) in let b : length (rs ++ q ∷ []) ≡ length rs + 1 = omega arith in b)
          ∙ more_left columns (length rs) f.slack (wider f.row) (pos 0) (sym zero_last) refl
          ∙ (λ i. filter (λ e. int_lt (pos 0) e.1) (map (λ j. (j, cond (columns + j == f.slack) f.row.d (pos (unsigned_abs (zero_after f.row.coefficients (columns + j) i))))) (range_with_len 0 (length rs))))
        where
          not_last : (columns + length rs == f.slack) ≡ false
          not_last = let a = here.1 in let b = end-length f.steps f.end f.reaches in apart (columns + length rs) f.slack (omega arith)
            where
              apart : (a b : ℕ) → b < a → (a == b) ≡ false
              apart a b l = grind (arith, nat_tests)

          zero_last : multiplier_at columns f.slack (wider f.row) (length rs) ≡ pos 0
          zero_last =
              ap (λ b. cond b f.row.d (pos (unsigned_abs (coefficient_at (wider f.row) (columns + length rs))))) not_last
              ∙ ap (λ z. pos (unsigned_abs z)) (zero_after f.row.coefficients (columns + length rs)
              ∙ get_or_past f.row.coefficients (columns + length rs) (pos 0) (let a = (table f.slack f.row here.0).count in let b = end-length f.steps f.end f.reaches in omega arith))
