-- The table of a grid after a pivot, and its first wide number.
use Rattle.std.proofs.Common.{◌≡◌, ◌≢◌, ℕ, zero, suc, ◌+◌, ◌^◌, ◌<◌, ◌≤◌, ◌⊎◌, inl, inr, Bool, true, false, cond, refl, sym, ap, ◌∙◌, subst, arith, ℤ, pos, List, [], ◌∷◌, ◌++◌, length, get_or, set, length-set, unsigned_abs, nat_le, Option, Some, None}
use Rattle.std.specs.Prelude.{slice_get, flat_map}
use Rattle.std.proofs.lemmas.Bool.Decides.{nat_tests}
use Rattle.std.proofs.lemmas.List.{length-map, get_or-map}
use Rattle.ntfe_model.specs.Solver.{Line, line_numbers, line_or_nothing, coefficient_at, solved_for, with_put_in, IsReduced, IsNextLine, IsPivot, first_wide}
use Rattle.strict_solver.specs.declared.place.Place.{Place}
use Rattle.strict_solver.specs.declared.place.Place.TheVariants.{Row, Column}
use Rattle.strict_solver.specs.Rows.{number, number_at, line_in, AreNarrow, IsLowRow, IsSolvedRow, IsCombination}
use Rattle.strict_solver.specs.Grids.{row_at, line_at, lines_by, IsPlacing, IsPivotable}
use Rattle.strict_solver.proofs.Wide.{all_narrow, zero_not_wide}
use Rattle.strict_solver.proofs.One.{reduced_same}
use Rattle.strict_solver.proofs.Elimination.{from_place, same_place}
use Rattle.strict_solver.proofs.Pivots.{IsTable, pivot-new, pivot-left, pivot-free, pivot-put}
use Rattle.strict_solver.proofs.Placing.{at_leaving, at_entering, at_others, somewhere, lines-length, line_there, lines-table}
use Rattle.strict_solver.proofs.Pivoting.{some_place, solved_low, solved_line, put_line, combined_positive}
use Rattle.strict_solver.proofs.Steps.{step_lines, step-is}

-- ---- wide numbers of a table
pub first_wide-append : (width : ℕ) (xs ys : List ℤ) → first_wide width xs ≡ None → first_wide width (xs ++ ys) ≡ first_wide width ys
first_wide-append width [] ys e = refl
first_wide-append width (z ∷ xs) ys e = by (nat_le (2 ^ width) (unsigned_abs z)) e (first_wide-append width xs ys)
  where
    by : (b : Bool) → cond b (Some z) (first_wide width xs) ≡ None → (first_wide width xs ≡ None → first_wide width (xs ++ ys) ≡ first_wide width ys) → cond b (Some z) (first_wide width (xs ++ ys)) ≡ first_wide width ys
    by true f rest = cc
    by false f rest = rest f

pub first_wide-front : (width : ℕ) (xs ys : List ℤ) (n : ℤ) → first_wide width xs ≡ Some n → first_wide width (xs ++ ys) ≡ Some n
first_wide-front width [] ys n e = cc
first_wide-front width (z ∷ xs) ys n e = by (nat_le (2 ^ width) (unsigned_abs z)) e (first_wide-front width xs ys n)
  where
    by : (b : Bool) → cond b (Some z) (first_wide width xs) ≡ Some n → (first_wide width xs ≡ Some n → first_wide width (xs ++ ys) ≡ Some n) → cond b (Some z) (first_wide width (xs ++ ys)) ≡ Some n
    by true f rest = f
    by false f rest = rest f

pub table_wide : (width : ℕ) (ls : List (Option Line)) (v : ℕ) (l : Line) (n : ℤ) → get_or ls v None ≡ Some l → first_wide width (line_numbers l) ≡ Some n
    → ((u : ℕ) → u < v → first_wide width (line_or_nothing (get_or ls u None)) ≡ None) → first_wide width (flat_map line_or_nothing ls) ≡ Some n
table_wide width [] v l n e f before = cc
table_wide width (o ∷ ls) zero l n e f before =
    first_wide-front width (line_or_nothing o) (flat_map line_or_nothing ls) n (ap (λ k. first_wide width (line_or_nothing k)) e ∙ f)
table_wide width (o ∷ ls) (suc v) l n e f before =
    first_wide-append width (line_or_nothing o) (flat_map line_or_nothing ls) (before 0 (omega arith)) ∙ table_wide width ls v l n e f (λ u h. before (suc u) (omega arith))

pub table_narrow : (width : ℕ) (ls : List (Option Line)) → ((u : ℕ) → first_wide width (line_or_nothing (get_or ls u None)) ≡ None) → first_wide width (flat_map line_or_nothing ls) ≡ None
table_narrow width [] h = refl
table_narrow width (o ∷ ls) h = first_wide-append width (line_or_nothing o) (flat_map line_or_nothing ls) (h 0) ∙ table_narrow width ls (λ u. h (suc u))

-- the line of a narrow row
pub line_narrow : (width : ℕ) (places : List Place) (row : List ℤ) → AreNarrow width row → first_wide width (line_numbers (line_in places row)) ≡ None
line_narrow width places row n = all_narrow width (line_numbers (line_in places row)) at
  where
    place_narrow : (o : Place) → unsigned_abs (number_at row o) < 2 ^ width
    place_narrow (Row r) = let z = zero_not_wide width in grind (arith, nat_tests)
    place_narrow (Column p) = n.each p

    at : (k : ℕ) → k < length (line_numbers (line_in places row)) → unsigned_abs (get_or (line_numbers (line_in places row)) k (pos 0)) < 2 ^ width
    at zero l = n.each 0
    at (suc zero) l = n.each 1
    at (suc (suc k)) l =
        let m = length-map places (number_at row) in
        let o = some_place places k (omega arith) in
        let f = from_place places k o.0 o.0 o.1 in
        subst (λ z. unsigned_abs z < 2 ^ width) (sym (get_or-map (number_at row) places k o.0 (pos 0) f.0)) (place_narrow (get_or places k o.0))

pub get_line : (ls : List (Option Line)) (v : ℕ) (o : Option Line) → slice_get ls v ≡ Some o → get_or ls v None ≡ o
get_line ls v o e = (from_place ls v None o e).1

-- ---- after a pivot
module _ (columns width : ℕ) (places : List Place) (h : IsPlacing columns places) (x y r p : ℕ) (ex : slice_get places x ≡ Some (Row r)) (ey : slice_get places y ≡ Some (Column p)) (old mid : List ℤ)
    (low : (v q : ℕ) → slice_get places v ≡ Some (Row q) → IsLowRow width (row_at (columns + 2) old q))
    (rows : (q : ℕ) → columns + q < length places → length (row_at (columns + 2) old q) ≡ columns + 2)
    (some : number (row_at (columns + 2) old r) p ≢ pos 0) (solved : IsSolvedRow (row_at (columns + 2) old r) p (row_at (columns + 2) mid r)) where
  r_within : columns + r < length places
  r_within = h.rows_within x r ex

  p_after : 2 ≤ p
  p_after = (h.columns_within y p ey).0

  new_count : length (row_at (columns + 2) mid r) ≡ columns + 2
  new_count = solved.count ∙ rows r r_within

  pub new_low : IsLowRow width (row_at (columns + 2) mid r)
  new_low = solved_low p p_after (row_at (columns + 2) old r) (row_at (columns + 2) mid r) some solved width (low x r ex)

  new_line : IsReduced (solved_for (line_in places (row_at (columns + 2) old r)) x y) (line_in (set (set places x (Column p)) y (Row r)) (row_at (columns + 2) mid r))
  new_line = solved_line columns places h x y r p ex ey (row_at (columns + 2) old r) (row_at (columns + 2) mid r) new_count some solved new_low.lowest

  -- what a combination of another row stands for
  put_there : (v q : ℕ) (new : List ℤ) → slice_get places v ≡ Some (Row q) → IsCombination (row_at (columns + 2) old q) p (set (row_at (columns + 2) mid r) 0 (pos 0)) (number (row_at (columns + 2) mid r) 0) new
      → IsReduced (with_put_in (line_in places (row_at (columns + 2) old q)) y (line_in (set (set places x (Column p)) y (Row r)) (row_at (columns + 2) mid r))) (line_in (set (set places x (Column p)) y (Row r)) new)
  put_there v q new e c =
      let l = h.rows_within v q e in
      put_line columns places h x y r p ex ey (row_at (columns + 2) old q) (row_at (columns + 2) mid r) new (c.count ∙ rows q l) c (low v q e).positive new_low.positive new_count (rows q l)

  row_apart : (v q : ℕ) → v ≢ x → slice_get places v ≡ Some (Row q) → q ≢ r
  row_apart v q n e f = n (h.apart v x (Row r) (e ∙ ap (λ k. Some (Row k)) f) ex)

  -- a row of the grid after the pivot, in lowest form
  pub other_low : (v q : ℕ) (new : List ℤ) → slice_get places v ≡ Some (Row q) → IsCombination (row_at (columns + 2) old q) p (set (row_at (columns + 2) mid r) 0 (pos 0)) (number (row_at (columns + 2) mid r) 0) new
      → AreNarrow width new → IsLowRow width new
  other_low v q new e c n =
      let l = h.rows_within v q e in
      record {
        positive = combined_positive columns places h x y r p ex ey (row_at (columns + 2) old q) (row_at (columns + 2) mid r) new (c.count ∙ rows q l) c (low v q e).positive new_low.positive new_count (rows q l);
        narrow = n;
        lowest = c.lowest;
      }

  module _ (now : List ℤ) (same : row_at (columns + 2) now r ≡ row_at (columns + 2) mid r)
      (done : (v q : ℕ) → slice_get places v ≡ Some (Row q) → q ≢ r → IsCombination (row_at (columns + 2) old q) p (set (row_at (columns + 2) mid r) 0 (pos 0)) (number (row_at (columns + 2) mid r) 0) (row_at (columns + 2) now q)) where
    there : (z : ℕ) (o : Place) → slice_get (set (set places x (Column p)) y (Row r)) z ≡ Some o
        → get_or (lines_by (columns + 2) (set (set places x (Column p)) y (Row r)) now) z None ≡ line_at (columns + 2) (set (set places x (Column p)) y (Row r)) now o
    there z o e = get_line _ z _ (line_there (columns + 2) (set (set places x (Column p)) y (Row r)) now z o e)

    before : (z : ℕ) (o : Place) → slice_get places z ≡ Some o → get_or (lines_by (columns + 2) places old) z None ≡ line_at (columns + 2) places old o
    before z o e = get_line _ z _ (line_there (columns + 2) places old z o e)

    next : (z : ℕ) → z < length places → IsNextLine x y (line_in (set (set places x (Column p)) y (Row r)) (row_at (columns + 2) mid r)) z (get_or (lines_by (columns + 2) places old) z None)
        (get_or (lines_by (columns + 2) (set (set places x (Column p)) y (Row r)) now) z None)
    next z l = by (somewhere places x y r p ex ey z)
      where
        by : (z ≡ x) ⊎ (z ≡ y) ⊎ ((z ≢ x) × (z ≢ y)) → IsNextLine x y (line_in (set (set places x (Column p)) y (Row r)) (row_at (columns + 2) mid r)) z (get_or (lines_by (columns + 2) places old) z None)
            (get_or (lines_by (columns + 2) (set (set places x (Column p)) y (Row r)) now) z None)
        by (inl e) = inl (e, there z (Column p) (ap (slice_get (set (set places x (Column p)) y (Row r))) e ∙ at_leaving places x y r p ex ey))
        by (inr (inl e)) = inr (inl (
          e,
          there z (Row r) (ap (slice_get (set (set places x (Column p)) y (Row r))) e ∙ at_entering places x y r p ex ey)
              ∙ ap (λ row. Some (line_in (set (set places x (Column p)) y (Row r)) row)) same,
        ))
        by (inr (inr n)) = let o = some_place places z l in on o.0 o.1
          where
            on : (o : Place) → slice_get places z ≡ Some o → IsNextLine x y (line_in (set (set places x (Column p)) y (Row r)) (row_at (columns + 2) mid r)) z (get_or (lines_by (columns + 2) places old) z None)
                (get_or (lines_by (columns + 2) (set (set places x (Column p)) y (Row r)) now) z None)
            on (Row q) e = inr (inr (inr (
              line_in places (row_at (columns + 2) old q),
              line_in (set (set places x (Column p)) y (Row r)) (row_at (columns + 2) now q),
              n.0,
              n.1,
              before z (Row q) e,
              there z (Row q) (at_others places x y r p ex ey z n.0 n.1 ∙ e),
              put_there z q (row_at (columns + 2) now q) e (done z q e (row_apart z q n.0 e)),
            )))
            on (Column q) e = inr (inr (inl (n.0, n.1, before z (Column q) e, there z (Column q) (at_others places x y r p ex ey z n.0 n.1 ∙ e))))

    pub grid_pivot : IsPivot x y (lines_by (columns + 2) places old) (lines_by (columns + 2) (set (set places x (Column p)) y (Row r)) now)
    grid_pivot = record {
      row = line_in places (row_at (columns + 2) old r);
      is = line_there (columns + 2) places old x (Row r) ex;
      other = line_there (columns + 2) places old y (Column p) ey;
      not_zero = λ e. some (sym (entry places (row_at (columns + 2) old r) y p ey) ∙ e);
      new = line_in (set (set places x (Column p)) y (Row r)) (row_at (columns + 2) mid r);
      solved = new_line;
      length_same = lines-length (columns + 2) (set (set places x (Column p)) y (Row r)) now ∙ same_length ∙ sym (lines-length (columns + 2) places old);
      lines = λ z l. next z (let a = lines-length (columns + 2) places old in omega arith);
    }
      where
        entry : (places : List Place) (row : List ℤ) (y p : ℕ) → slice_get places y ≡ Some (Column p) → coefficient_at (line_in places row) y ≡ number row p
        entry places row y p e = let f = from_place places y (Column p) (Column p) e in get_or-map (number_at row) places y (Column p) (pos 0) f.0 ∙ ap (number_at row) f.1

        same_length : length (set (set places x (Column p)) y (Row r)) ≡ length places
        same_length = placed_length places x y (Column p) (Row r)
          where
            placed_length : (ps : List Place) (i j : ℕ) (a b : Place) → length (set (set ps i a) j b) ≡ length ps
            placed_length ps i j a b = length-set (set ps i a) j b ∙ length-set ps i a

  -- ---- where a row is wide
  old_table : IsTable (lines_by (columns + 2) places old)
  old_table = lines-table (columns + 2) places old (λ v q e. (low v q e).positive)

  pub pivotable : IsPivotable x y (lines_by (columns + 2) places old)
  pivotable = record {
    row = line_in places (row_at (columns + 2) old r);
    is = line_there (columns + 2) places old x (Row r) ex;
    other = line_there (columns + 2) places old y (Column p) ey;
    not_zero = λ e. some (sym (let f = from_place places y (Column p) (Column p) ey in get_or-map (number_at (row_at (columns + 2) old r)) places y (Column p) (pos 0) f.0 ∙ ap (number_at (row_at (columns + 2) old r)) f.1) ∙ e);
  }

  pub stepped : IsPivot x y (lines_by (columns + 2) places old) (step_lines x y (lines_by (columns + 2) places old))
  stepped = step-is x y (lines_by (columns + 2) places old) old_table pivotable

  step_row : stepped.row ≡ line_in places (row_at (columns + 2) old r)
  step_row = let a = stepped.is in let b = line_there (columns + 2) places old x (Row r) ex in cc

  step_new : stepped.new ≡ line_in (set (set places x (Column p)) y (Row r)) (row_at (columns + 2) mid r)
  step_new = reduced_same (solved_for (line_in places (row_at (columns + 2) old r)) x y) stepped.new (line_in (set (set places x (Column p)) y (Row r)) (row_at (columns + 2) mid r))
      (let P : Line → Type 0 = λ k. IsReduced (solved_for k x y) stepped.new in subst P step_row stepped.solved) new_line

  -- the line of another row in the table after the pivot
  step_other : (v q : ℕ) (new : List ℤ) → v ≢ x → slice_get places v ≡ Some (Row q) → IsCombination (row_at (columns + 2) old q) p (set (row_at (columns + 2) mid r) 0 (pos 0)) (number (row_at (columns + 2) mid r) 0) new
      → get_or (step_lines x y (lines_by (columns + 2) places old)) v None ≡ Some (line_in (set (set places x (Column p)) y (Row r)) new)
  step_other v q new n e c =
      let h = pivot-put x y _ _ stepped v (line_in places (row_at (columns + 2) old q)) (get_line _ v _ (line_there (columns + 2) places old v (Row q) e)) n in
      let P : Line → Type 0 = λ k. IsReduced (with_put_in (line_in places (row_at (columns + 2) old q)) y k) h.0 in
      h.1 ∙ ap Some (reduced_same (with_put_in (line_in places (row_at (columns + 2) old q)) y (line_in (set (set places x (Column p)) y (Row r)) (row_at (columns + 2) mid r))) h.0 (line_in (set (set places x (Column p)) y (Row r)) new)
      (subst P step_new h.2) (put_there v q new e c))

  step_none : (v q : ℕ) → v ≢ y → slice_get places v ≡ Some (Column q) → get_or (step_lines x y (lines_by (columns + 2) places old)) v None ≡ None
  step_none v q n e = pivot-free x y _ _ stepped v (get_line _ v _ (line_there (columns + 2) places old v (Column q) e)) n

  module _ (number_wide : ℤ) (v q : ℕ) (e : slice_get places v ≡ Some (Row q)) (apart : q ≢ r) (row : List ℤ)
      (c : IsCombination (row_at (columns + 2) old q) p (set (row_at (columns + 2) mid r) 0 (pos 0)) (number (row_at (columns + 2) mid r) 0) row)
      (first : first_wide width (line_numbers (line_in (set (set places x (Column p)) y (Row r)) row)) ≡ Some number_wide)
      (before : (u t : ℕ) → u < v → slice_get places u ≡ Some (Row t) → t ≢ r
      → (new : List ℤ) × (IsCombination (row_at (columns + 2) old t) p (set (row_at (columns + 2) mid r) 0 (pos 0)) (number (row_at (columns + 2) mid r) 0) new × AreNarrow width new)) where
    v_apart : v ≢ x
    v_apart f = let g : Row q ≡ Row r = same_place places x _ _ (subst (λ k. slice_get places k ≡ Some (Row q)) f e) ex in apart (let i : q ≡ r = cc in i)

    narrow_before : (u : ℕ) → u < v → first_wide width (line_or_nothing (get_or (step_lines x y (lines_by (columns + 2) places old)) u None)) ≡ None
    narrow_before u l = by (somewhere places x y r p ex ey u)
      where
        by : (u ≡ x) ⊎ (u ≡ y) ⊎ ((u ≢ x) × (u ≢ y)) → first_wide width (line_or_nothing (get_or (step_lines x y (lines_by (columns + 2) places old)) u None)) ≡ None
        by (inl f) = ap (λ k. first_wide width (line_or_nothing k)) (ap (λ k. get_or (step_lines x y (lines_by (columns + 2) places old)) k None) f ∙ pivot-left x y _ _ stepped)
        by (inr (inl f)) =
            ap (λ k. first_wide width (line_or_nothing k)) (ap (λ k. get_or (step_lines x y (lines_by (columns + 2) places old)) k None) f ∙ pivot-new x y _ _ stepped ∙ ap Some step_new)
            ∙ line_narrow width (set (set places x (Column p)) y (Row r)) (row_at (columns + 2) mid r) new_low.narrow
        by (inr (inr n)) = let o = some_place places u (let a = (from_place places v (Row 0) (Row q) e).0 in omega arith) in on o.0 o.1
          where
            on : (o : Place) → slice_get places u ≡ Some o → first_wide width (line_or_nothing (get_or (step_lines x y (lines_by (columns + 2) places old)) u None)) ≡ None
            on (Row t) f =
                let b = before u t l f (row_apart u t n.0 f) in
                ap (λ k. first_wide width (line_or_nothing k)) (step_other u t b.0 n.0 f b.1.0) ∙ line_narrow width (set (set places x (Column p)) y (Row r)) b.0 b.1.1
            on (Column t) f = ap (λ k. first_wide width (line_or_nothing k)) (step_none u t n.1 f)

    pub step_wide : first_wide width (flat_map line_or_nothing (step_lines x y (lines_by (columns + 2) places old))) ≡ Some number_wide
    step_wide = table_wide width _ v (line_in (set (set places x (Column p)) y (Row r)) row) number_wide (step_other v q row v_apart e c) first narrow_before
