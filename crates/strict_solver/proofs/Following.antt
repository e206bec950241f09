-- A table of the run with one more row at its end beside a table of the run without it. The new row's slack is the last
-- variable. While it is basic it is idle; where it has left for a height, no other slack has that height.
--     Follows columns s u e      the basic variables of u are those of s and e; the other slacks' lines are those of s with 0 at the last
--     pivot-follows              a pivot on a slack of s is one of u, and the tables after it follow
--     load-follows               the pivot of the last slack on a height that no other slack has
--     next_follows, moving-follows      what is chosen in s is chosen in u, but for the last slack
use Rattle.std.proofs.Common.{◌≡◌, ◌≢◌, ℕ, suc, ◌<◌, ◌≤◌, ◌⊎◌, inl, inr, sym, ap, ◌∙◌, subst, arith, pos, List, length, get_or, Some, None, Option}
use Rattle.std.specs.Prelude.{is_none}
use Rattle.std.proofs.lemmas.List.{get_or_past}
use Rattle.ntfe_model.specs.Solver.{Line, coefficient_at, solved_for, with_put_in, IsReduced, IsPivot}
use Rattle.strict_solver.specs.Grids.{IsPivotable}
use Rattle.strict_solver.specs.Continuing.{wider, wider_line}
use Rattle.strict_solver.proofs.One.{reduced_same}
use Rattle.strict_solver.proofs.Moves.{IsGone}
use Rattle.strict_solver.proofs.Pivots.{IsTable, AreLowest, get_there, pivot-leaving, pivot-entering, pivot-new, pivot-left, pivot-free, pivot-put, pivot-none, pivot-table, pivot-gone, solved-clear, put_in-clear}
use Rattle.strict_solver.proofs.Steps.{step_lines, step-is}
use Rattle.strict_solver.proofs.Wider.{zero_after, solved-wider, put_in-wider, reduced-wider, wider-lowest, reduced-kept}
use Rattle.strict_solver.proofs.Entries.{basic_or_not, at_places, not_both, both_some, none_of, slice_none, none_unless}

pub record Follows (columns : ℕ) (s u : List (Option Line)) (e : ℕ) : Type 0 where
  pub longer : length u ≡ suc (length s)
  pub table : IsTable u
  pub slacks : (z : ℕ) → columns ≤ z → z < length s → get_or u z None ≡ wider_line (get_or s z None)
  pub basics : (z : ℕ) → z ≢ e → is_none (get_or u z None) ≡ is_none (get_or s z None)
  pub line : Line
  pub extra : get_or u e None ≡ Some line
  pub other : get_or s e None ≡ None
  pub place : (e ≡ length s) ⊎ ((e < columns) × IsGone columns s e)
  -- the heights before it that are not basic are gone
  pub cleared : (j : ℕ) → j < e → e < columns → get_or s j None ≡ None → IsGone columns s j × (coefficient_at line j ≡ pos 0)

-- ---- a pivot on a slack that both tables have
module _ (columns x y : ℕ) (s t u : List (Option Line)) (e : ℕ) (w : IsTable s) (cs : columns ≤ length s) (cx : columns ≤ x) (p : IsPivot x y s t) (f : Follows columns s u e) where
  lx : x < length s
  lx = (pivot-leaving x y s t p).1

  ly : y < length s
  ly = (pivot-entering x y s t p).1

  is_x : get_or s x None ≡ Some p.row
  is_x = (pivot-leaving x y s t p).0

  count_x : length p.row.coefficients ≡ length s
  count_x = (w x p.row is_x).count

  pub not_entering : y ≢ e
  not_entering i = by f.place
    where
      by : (e ≡ length s) ⊎ ((e < columns) × IsGone columns s e) → ⊥
      by (inl h) = let l = ly in omega arith
      by (inr h) = p.not_zero (ap (coefficient_at p.row) i ∙ h.1 x p.row cx lx is_x)

  not_leaving : x ≢ e
  not_leaving i = not_both _ p.row is_x (ap (λ z. get_or s z None) i ∙ f.other)

  wide_x : get_or u x None ≡ Some (wider p.row)
  wide_x = f.slacks x cx lx ∙ ap wider_line is_x

  can : IsPivotable x y u
  can = record {
    row = wider p.row;
    is = get_there u x (wider p.row) wide_x;
    other = slice_none u y (let c = f.longer in let l = ly in omega arith) (none_of _ (f.basics y not_entering ∙ ap is_none (pivot-entering x y s t p).0));
    not_zero = λ h. p.not_zero (sym (zero_after p.row.coefficients y) ∙ h);
  }

  pub follow-pivot : IsPivot x y u (step_lines x y u)
  follow-pivot = step-is x y u f.table can

  module _ (k : IsPivot x y u (step_lines x y u)) where
    same_row : k.row ≡ wider p.row
    same_row = both_some _ k.row (wider p.row) (pivot-leaving x y u (step_lines x y u) k).0 wide_x

    new_count : length p.new.coefficients ≡ length t
    new_count = (pivot-table x y s t p w y p.new (pivot-new x y s t p)).count

    same_new : k.new ≡ wider p.new
    same_new =
        let P : Line → Type 0 = λ r. IsReduced (solved_for r x y) k.new in
        let Q : Line → Type 0 = λ r. IsReduced r (wider p.new) in
        let c = count_x in
        let a = lx in
        let b = ly in
        reduced_same (solved_for (wider p.row) x y) k.new (wider p.new) (subst P same_row k.solved)
        (subst Q (sym (solved-wider p.row x y (omega arith) (omega arith))) (reduced-wider (solved_for p.row x y) p.new p.solved))

    next_slack : (z : ℕ) → columns ≤ z → z < length s → get_or (step_lines x y u) z None ≡ wider_line (get_or t z None)
    next_slack = at_places x y s (λ z. columns ≤ z → z < length s → get_or (step_lines x y u) z None ≡ wider_line (get_or t z None)) (λ c l. pivot-left x y u (step_lines x y u) k ∙ ap wider_line (sym (pivot-left x y s t p)))
        (λ c l. pivot-new x y u (step_lines x y u) k ∙ ap Some same_new ∙ ap wider_line (sym (pivot-new x y s t p)))
        (λ z n e c l. pivot-free x y u (step_lines x y u) k z (f.slacks z c l ∙ ap wider_line e) n ∙ ap wider_line (sym (pivot-free x y s t p z e n))) put
      where
        put : (z : ℕ) (q : Line) → z ≢ x → get_or s z None ≡ Some q → columns ≤ z → z < length s → get_or (step_lines x y u) z None ≡ wider_line (get_or t z None)
        put z q n e c l =
            let h = pivot-put x y s t p z q e n in
            let g = pivot-put x y u (step_lines x y u) k z (wider q) (f.slacks z c l ∙ ap wider_line e) n in
            let P : Line → Type 0 = λ m. IsReduced (with_put_in (wider q) y m) g.0 in
            let Q : Line → Type 0 = λ r. IsReduced r (wider h.0) in
            let a = (w z q e).count in
            let b = new_count in
            let d = p.length_same in
            let j = ly in
            g.1
            ∙ ap Some (reduced_same (with_put_in (wider q) y (wider p.new)) g.0 (wider h.0) (subst P same_new g.2)
            (subst Q (sym (put_in-wider q y p.new (omega arith) (omega arith))) (reduced-wider (with_put_in q y p.new) h.0 h.2)))
            ∙ ap wider_line (sym h.1)

    kept : (r : Line) × (get_or (step_lines x y u) e None ≡ Some r) × IsReduced (with_put_in f.line y k.new) r
    kept = pivot-put x y u (step_lines x y u) k e f.line f.extra (λ i. not_leaving (sym i))

    pub follow-after : Follows columns t (step_lines x y u) e
    follow-after = record {
      longer = k.length_same ∙ f.longer ∙ ap suc (sym p.length_same);
      table = pivot-table x y u (step_lines x y u) k f.table;
      slacks = λ z c l.
          (let a = p.length_same in next_slack z c (omega arith));
      basics = λ z n. basic z n (let c : (z ≡ x) ⊎ (z ≡ y) ⊎ ((z ≢ x) × (z ≢ y)) = grind arith in c);
      line = kept.0;
      extra = kept.1;
      other = none_of _ (pivot-none x y s t p e (λ i. not_leaving (sym i)) (λ i. not_entering (sym i)) ∙ ap is_none f.other);
      place = there f.place;
      cleared = clear;
    }
      where
        basic : (z : ℕ) → z ≢ e → (z ≡ x) ⊎ (z ≡ y) ⊎ ((z ≢ x) × (z ≢ y)) → is_none (get_or (step_lines x y u) z None) ≡ is_none (get_or t z None)
        basic z n (inl i) =
            let P : ℕ → Type 0 = λ z. is_none (get_or (step_lines x y u) z None) ≡ is_none (get_or t z None) in
            subst P (sym i) (ap is_none (pivot-left x y u (step_lines x y u) k ∙ sym (pivot-left x y s t p)))
        basic z n (inr (inl i)) =
            let P : ℕ → Type 0 = λ z. is_none (get_or (step_lines x y u) z None) ≡ is_none (get_or t z None) in
            subst P (sym i) (ap is_none (pivot-new x y u (step_lines x y u) k) ∙ ap is_none (sym (pivot-new x y s t p)))
        basic z n (inr (inr i)) = pivot-none x y u (step_lines x y u) k z i.0 i.1 ∙ f.basics z n ∙ sym (pivot-none x y s t p z i.0 i.1)

        clear : (j : ℕ) → j < e → e < columns → get_or t j None ≡ None → IsGone columns t j × (coefficient_at kept.0 j ≡ pos 0)
        clear j lj le none = (
          pivot-gone x y s t p w columns j (omega arith) cx ny (omega arith) before.0,
          (let a = (f.table e f.line f.extra).count in
              let b = (pivot-table x y u (step_lines x y u) k f.table y k.new (pivot-new x y u (step_lines x y u) k)).count in
              let c = k.length_same in
              let d = f.longer in
              put_in-clear f.line k.new kept.0 y j kept.2 (omega arith) (omega arith) (inr before.1) new_clear),
        )
          where
            ny : j ≢ y
            ny i = not_both _ p.new (pivot-new x y s t p) (ap (λ z. get_or t z None) (sym i) ∙ none)

            nx : j ≢ x
            nx i = omega arith

            before : IsGone columns s j × (coefficient_at f.line j ≡ pos 0)
            before = f.cleared j lj le (none_of _ (sym (pivot-none x y s t p j nx ny) ∙ ap is_none none))

            new_clear : coefficient_at k.new j ≡ pos 0
            new_clear = solved-clear k.row k.new x y j k.solved nx (inr (ap (λ r. coefficient_at r j) same_row ∙ zero_after p.row.coefficients j ∙ before.0 x p.row cx lx is_x))

        there : (e ≡ length s) ⊎ ((e < columns) × IsGone columns s e) → (e ≡ length t) ⊎ ((e < columns) × IsGone columns t e)
        there (inl i) = inl (i ∙ sym p.length_same)
        there (inr i) = inr (i.0, pivot-gone x y s t p w columns e i.0 cx (λ h. not_entering (sym h)) (let a = i.0 in omega arith) i.1)

  pub pivot-follows : IsPivot x y u (step_lines x y u) × Follows columns t (step_lines x y u) e
  pivot-follows = (follow-pivot, follow-after follow-pivot)

-- ---- the last slack leaves for a height that no other slack has
module _ (columns k : ℕ) (s u : List (Option Line)) (w : IsTable s) (low : AreLowest s) (cs : columns ≤ length s) (ck : k < columns) (gone : IsGone columns s k) (f : Follows columns s u (length s))
    (some : coefficient_at f.line k ≢ pos 0) (before : (j : ℕ) → j < k → get_or s j None ≡ None → IsGone columns s j × (coefficient_at f.line j ≡ pos 0)) where
  height_none : get_or u k None ≡ None
  height_none = none_unless _ (λ r h. some ((f.table (length s) f.line f.extra).zeros k r h))

  can_load : IsPivotable (length s) k u
  can_load = record {
    row = f.line;
    is = get_there u (length s) f.line f.extra;
    other = slice_none u k (let c = f.longer in omega arith) height_none;
    not_zero = some;
  }

  load-pivot : IsPivot (length s) k u (step_lines (length s) k u)
  load-pivot = step-is (length s) k u f.table can_load

  module _ (p : IsPivot (length s) k u (step_lines (length s) k u)) where
    after : IsTable (step_lines (length s) k u)
    after = pivot-table (length s) k u (step_lines (length s) k u) p f.table

    next_loaded : (z : ℕ) → columns ≤ z → z < length s → get_or (step_lines (length s) k u) z None ≡ wider_line (get_or s z None)
    next_loaded z c l = by (basic_or_not (get_or s z None))
      where
        by : ((r : Line) × (get_or s z None ≡ Some r)) ⊎ (get_or s z None ≡ None) → get_or (step_lines (length s) k u) z None ≡ wider_line (get_or s z None)
        by (inr i) = pivot-free (length s) k u (step_lines (length s) k u) p z (f.slacks z c l ∙ ap wider_line i) (λ e. omega arith) ∙ ap wider_line (sym i)
        by (inl i) =
            let row : get_or u z None ≡ Some (wider i.0) = f.slacks z c l ∙ ap wider_line i.1 in
            let h = pivot-put (length s) k u (step_lines (length s) k u) p z (wider i.0) row (λ e. omega arith) in
            let a = f.table z (wider i.0) row in
            let b = after k p.new (pivot-new (length s) k u (step_lines (length s) k u) p) in
            h.1
            ∙ ap Some (reduced_same (with_put_in (wider i.0) k p.new) h.0 (wider i.0) h.2
            (reduced-kept (wider i.0) k p.new (zero_after i.0.coefficients k ∙ gone z i.0 c l i.1) (a.count ∙ sym p.length_same ∙ sym b.count) a.positive b.positive (wider-lowest i.0 (low z i.0 i.1))))
            ∙ ap wider_line (sym i.1)

    load-after : Follows columns s (step_lines (length s) k u) k
    load-after = record {
      longer = p.length_same ∙ f.longer;
      table = after;
      slacks = next_loaded;
      basics = λ z n. basic z n (let c : (z ≡ length s) ⊎ (z ≢ length s) = grind arith in c);
      line = p.new;
      extra = pivot-new (length s) k u (step_lines (length s) k u) p;
      other = none_of _ (sym (f.basics k (λ i. omega arith)) ∙ ap is_none height_none);
      place = inr (ck, gone);
      cleared = λ j lj le none.
          (let b = before j lj none in
          let row : p.row ≡ f.line = both_some _ p.row f.line (pivot-leaving (length s) k u (step_lines (length s) k u) p).0 f.extra in
          (b.0, solved-clear p.row p.new (length s) k j p.solved (λ i. omega arith) (inr (ap (λ r. coefficient_at r j) row ∙ b.1))));
    }
      where
        basic : (z : ℕ) → z ≢ k → (z ≡ length s) ⊎ (z ≢ length s) → is_none (get_or (step_lines (length s) k u) z None) ≡ is_none (get_or s z None)
        basic z n (inl i) =
            ap (λ z. is_none (get_or (step_lines (length s) k u) z None)) i
            ∙ ap is_none (pivot-left (length s) k u (step_lines (length s) k u) p ∙ sym (get_or_past s z None (omega arith)))
        basic z n (inr i) = pivot-none (length s) k u (step_lines (length s) k u) p z i n ∙ f.basics z i

  pub load-follows : IsPivot (length s) k u (step_lines (length s) k u) × Follows columns s (step_lines (length s) k u) k
  load-follows = (load-pivot, load-after load-pivot)
