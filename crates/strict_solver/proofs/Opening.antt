-- The grid of the start stands for the start's table.
use Rattle.std.proofs.Common.{◌≡◌, ℕ, suc, ◌+◌, ◌-◌, ◌*◌, ◌<◌, ◌≤◌, ◌⊎◌, inl, inr, refl, sym, ap, ◌∙◌, subst, arith, ℤ, pos, ◌<ℤ◌, List, [], ◌++◌, map, length, get_or, replicate, mul-le-mul, unsigned_abs, Some, None}
use Rattle.std.specs.Prelude.{slice_get}
use Rattle.std.specs.Int.{◌∣◌}
use Rattle.std.specs.List.{range_with_len}
use Rattle.std.proofs.lemmas.Int.{ints}
use Rattle.std.proofs.lemmas.List.{length-map, length-append, length-replicate, get_or-map, get_or_append_left, get_or_default, same_lists}
use Rattle.std.proofs.Math.Nat.{eq-one_of_dvd-one}
use Rattle.ntfe_model.specs.Certificates.{fold_coefficient}
use Rattle.ntfe_model.specs.declared.nogood.Fold.{Fold}
use Rattle.ntfe_model.specs.Solver.{fold_row, start_line, start_table, line_numbers, line_or_nothing, first_wide, IsWideTable}
use Rattle.strict_solver.specs.declared.place.Place.{Place}
use Rattle.strict_solver.specs.declared.place.Place.TheVariants.{Row, Column}
use Rattle.strict_solver.specs.declared.grid.Grid.{Grid}
use Rattle.strict_solver.specs.Rows.{number_at, line_in, AreNarrow, IsLowRow}
use Rattle.strict_solver.specs.Grids.{row_at, lines_by, lines_of, IsGrid, HasSameRoom}
use Rattle.strict_solver.specs.Runs.{Stands}
use Rattle.strict_solver.specs.Starts.{IsStartPlacing, IsStartRow, HasRoomFor}
use Rattle.strict_solver.proofs.Elimination.{from_place}
use Rattle.strict_solver.proofs.Placing.{lines-length, line_there, coefficient_there}
use Rattle.strict_solver.proofs.Pivoting.{some_place}
use Rattle.strict_solver.proofs.PlacingAll.{start_placing, which}
use Rattle.strict_solver.proofs.Tables.{get_line, table_wide, line_narrow}
use Rattle.strict_solver.proofs.Runs.{start_lines, start-at, start-length, after_row, start-none}
use Rattle.strict_solver.proofs.Running.{grid_narrow}
use Rattle.ntfe_model.proofs.Lists.{range_length, range_get}
use Rattle.strict_solver.proofs.Starting.{fold_row-length}

-- what the writing of the rows keeps
pub record IsOpening (width : ℕ) (old now : Grid) (fs : List Fold) (r : ℕ) : Type 0 where
  pub room : HasSameRoom old now
  pub places : IsStartPlacing old.columns (length fs) now.places.items
  pub done : (q : ℕ) (f : Fold) → q < r → slice_get fs q ≡ Some f → IsStartRow old.columns f (row_at (old.columns + 2) now.cells.items q) × AreNarrow width (row_at (old.columns + 2) now.cells.items q)

module _ (n m : ℕ) (ps : List Place) (h : IsStartPlacing n m ps) where
  -- the line of a row of the start
  pub start_line_is : (f : Fold) (row : List ℤ) → IsStartRow n f row → line_in ps row ≡ start_line m (fold_row n f)
  start_line_is f row s = λ i. record { d = s.d i; c = s.c i; coefficients = coefficients i }
    where
      left_length : length (map (number_at row) ps) ≡ n + m
      left_length = length-map ps (number_at row) ∙ h.count

      right_length : length (fold_row n f ++ replicate m (pos 0)) ≡ n + m
      right_length = length-append (fold_row n f) (replicate m (pos 0)) ∙ (let a = fold_row-length n f in let b = length-replicate m (pos 0) in omega arith)

      at : (k : ℕ) → k < n + m → get_or (map (number_at row) ps) k (pos 0) ≡ get_or (fold_row n f ++ replicate m (pos 0)) k (pos 0)
      at k l = by (let c : (k < n) ⊎ (n ≤ k) = grind arith in c)
        where
          by : (k < n) ⊎ (n ≤ k) → get_or (map (number_at row) ps) k (pos 0) ≡ get_or (fold_row n f ++ replicate m (pos 0)) k (pos 0)
          by (inl i) =
              coefficient_there ps row k (Column (k + 2)) (h.heights k i)
              ∙ s.coefficients k i
              ∙ ap (fold_coefficient f) (let e : k + 1 ≡ 1 + k = omega arith in e ∙ sym (range_get 1 n k i))
              ∙ sym (get_or-map (fold_coefficient f) (range_with_len 1 n) k 0 (pos 0) (let e = range_length 1 n in omega arith))
              ∙ sym (get_or_append_left (fold_row n f) (replicate m (pos 0)) (pos 0) k (let e = fold_row-length n f in omega arith))
          by (inr i) =
              let q : k ≡ n + (k - n) = omega arith in
              ap (λ j. get_or (map (number_at row) ps) j (pos 0)) q
              ∙ coefficient_there ps row (n + (k - n)) (Row (k - n)) (h.slacks (k - n) (omega arith))
              ∙ sym (after_row (fold_row n f) m k (let e = fold_row-length n f in omega arith))

      coefficients : map (number_at row) ps ≡ fold_row n f ++ replicate m (pos 0)
      coefficients =
          same_lists _ _ (left_length ∙ sym right_length) (λ k d l.
          (let a = left_length in
          let b = right_length in
          get_or_default (map (number_at row) ps) k d (pos 0) l ∙ at k (omega arith) ∙ get_or_default (fold_row n f ++ replicate m (pos 0)) k (pos 0) d (omega arith)))

one_low : (width : ℕ) (n : ℕ) (f : Fold) (row : List ℤ) → IsStartRow n f row → AreNarrow width row → IsLowRow width row
one_low width n f row s narrow = record {
  positive = subst (λ z. pos 0 <ℤ z) (sym s.d) (omega (arith, ints));
  narrow = narrow;
  lowest = λ m all. eq-one_of_dvd-one (let P : ℤ → Type 0 = λ z. m ∣ unsigned_abs z in subst P s.d (all 0));
}

module _ (width : ℕ) (old now : Grid) (fs : List Fold) (r : ℕ) (room : HasRoomFor (length fs) old) (h : IsOpening width old now fs r) where
  rows : List (List ℤ)
  rows = map (fold_row old.columns) fs

  rows_count : length (map (fold_row old.columns) fs) ≡ length fs
  rows_count = length-map fs (fold_row old.columns)

  -- the start's table at a slack
  slack_line : (q : ℕ) (f : Fold) → slice_get fs q ≡ Some f → get_or (start_lines old.columns (length (map (fold_row old.columns) fs)) (map (fold_row old.columns) fs)) (old.columns + q) None ≡ Some (start_line (length fs) (fold_row old.columns f))
  slack_line q f e =
      let g = from_place fs q f f e in
      start-at old.columns (length (map (fold_row old.columns) fs)) (map (fold_row old.columns) fs) (old.columns + q) q refl (let a = rows_count in let b = g.0 in omega arith)
      ∙ (λ i. Some (start_line (rows_count i) ((get_or-map (fold_row old.columns) fs q f [] g.0 ∙ ap (fold_row old.columns) g.1) i)))

  module _ (all : length fs ≤ r) where
    low : (v q : ℕ) → slice_get now.places.items v ≡ Some (Row q) → IsLowRow width (row_at (old.columns + 2) now.cells.items q)
    low v q e = by (which old.columns (length fs) now.places.items h.places v (Row q) e)
      where
        by : ((v < old.columns) × (Row q ≡ Column (v + 2))) ⊎ ((j : ℕ) × (j < length fs) × (v ≡ old.columns + j) × (Row q ≡ Row j)) → IsLowRow width (row_at (old.columns + 2) now.cells.items q)
        by (inl a) = let b : Row q ≡ Column (v + 2) = a.1 in cc
        by (inr a) =
            let b : Row q ≡ Row a.0 = a.3 in
            let c : q ≡ a.0 = cc in
            let f = some_place fs q (let d = a.1 in omega arith) in
            let d = h.done q f.0 (let l = a.1 in omega arith) f.1 in
            one_low width old.columns f.0 (row_at (old.columns + 2) now.cells.items q) d.0 d.1

    pub opened_grid : IsGrid width now
    opened_grid =
        let c = h.room.columns in
        let P : ℕ → Type 0 = λ k. (v q : ℕ) → slice_get now.places.items v ≡ Some (Row q) → IsLowRow width (row_at (k + 2) now.cells.items q) in
        let Q : ℕ → Type 0 = λ k. IsStartPlacing k (length fs) now.places.items in
        record {
          few = (let f = room.few in omega arith);
          placing = start_placing now.columns (length fs) now.places.items (subst Q (sym c) h.places);
          room = λ q l. fits q (let a = h.places.count in let b = c in omega arith);
          low = subst P (sym c) low;
          pivot = (let a = h.room.pivot in let b = room.pivot in omega arith);
          scratch = (let a = h.room.scratch in let b = room.scratch in omega arith);
        }
      where
        fits : (q : ℕ) → q < length fs → q * (now.columns + 2) + (now.columns + 2) ≤ length now.cells.items
        fits q l =
            let R : ℕ → Type 0 = λ k. q * (k + 2) + (k + 2) ≤ length now.cells.items in
            subst R (sym h.room.columns) (let m : suc q * (old.columns + 2) ≤ length fs * (old.columns + 2) = mul-le-mul l (let e : old.columns + 2 ≤ old.columns + 2 = omega arith in e) in
            let a = room.cells in let b = h.room.cells in omega arith)

    lines_are : lines_by (old.columns + 2) now.places.items now.cells.items ≡ start_lines old.columns (length (map (fold_row old.columns) fs)) (map (fold_row old.columns) fs)
    lines_are =
        same_lists _ _ (lines-length (old.columns + 2) now.places.items now.cells.items ∙ h.places.count ∙ (let a = start-length old.columns (length (map (fold_row old.columns) fs)) (map (fold_row old.columns) fs) in let b = rows_count in omega arith))
        (λ k d l.
        (let a = lines-length (old.columns + 2) now.places.items now.cells.items in
        let b = h.places.count in
        let e = start-length old.columns (length (map (fold_row old.columns) fs)) (map (fold_row old.columns) fs) in
        let f = rows_count in
        get_or_default (lines_by (old.columns + 2) now.places.items now.cells.items) k d None l
        ∙ at k (let c : (k < old.columns) ⊎ (old.columns ≤ k) = grind arith in c) (omega arith)
        ∙ get_or_default (start_lines old.columns (length (map (fold_row old.columns) fs)) (map (fold_row old.columns) fs)) k None d (omega arith)))
      where
        at : (k : ℕ) → (k < old.columns) ⊎ (old.columns ≤ k) → k < old.columns + length fs
            → get_or (lines_by (old.columns + 2) now.places.items now.cells.items) k None ≡ get_or (start_lines old.columns (length (map (fold_row old.columns) fs)) (map (fold_row old.columns) fs)) k None
        at k (inl i) l =
            get_line _ k _ (line_there (old.columns + 2) now.places.items now.cells.items k (Column (k + 2)) (h.places.heights k i))
            ∙ sym (start-none old.columns (length (map (fold_row old.columns) fs)) (map (fold_row old.columns) fs) k i)
        at k (inr i) l =
            let q = k - old.columns in
            let e : k ≡ old.columns + (k - old.columns) = omega arith in
            let f = some_place fs q (omega arith) in
            let d = h.done q f.0 (omega arith) f.1 in
            ap (λ j. get_or (lines_by (old.columns + 2) now.places.items now.cells.items) j None) e
            ∙ get_line _ (old.columns + q) _ (line_there (old.columns + 2) now.places.items now.cells.items (old.columns + q) (Row q) (h.places.slacks q (omega arith)))
            ∙ ap Some (start_line_is old.columns (length fs) now.places.items h.places f.0 (row_at (old.columns + 2) now.cells.items q) d.0)
            ∙ sym (slack_line q f.0 f.1)
            ∙ ap (λ j. get_or (start_lines old.columns (length (map (fold_row old.columns) fs)) (map (fold_row old.columns) fs)) j None) (sym e)

    pub opened_stands : Stands old.columns width (map (fold_row old.columns) fs) (range_with_len 0 old.columns) 0 (lines_of now)
    opened_stands =
        let e : lines_of now ≡ lines_by (old.columns + 2) now.places.items now.cells.items = ap (λ k. lines_by (k + 2) now.places.items now.cells.items) h.room.columns in
        record {
          reaches = record {
            tables = [];
            count = refl;
            run = λ i. record { lines = sym (e ∙ lines_are) i; to_load = range_with_len 0 old.columns };
            narrow = λ k s l f. absurd (omega arith);
          };
          narrow = grid_narrow width now opened_grid;
        }

  -- where a row is wide
  pub opened_wide : (row : List ℤ) (f : Fold) (z : ℤ) → slice_get fs r ≡ Some f → IsStartRow old.columns f row → first_wide width (line_numbers (line_in now.places.items row)) ≡ Some z → IsWideTable old.columns (map (fold_row old.columns) fs) width 0 z
  opened_wide row f z e s w = record {
    steps = 0;
    end = start_table old.columns (map (fold_row old.columns) fs);
    reaches = record { tables = []; count = refl; run = refl; narrow = λ k t l g. absurd (omega arith) };
    first =
        table_wide width (start_lines old.columns (length (map (fold_row old.columns) fs)) (map (fold_row old.columns) fs)) (old.columns + r) (start_line (length fs) (fold_row old.columns f)) z (slack_line r f e)
        (ap (λ k. first_wide width (line_numbers k)) (sym (start_line_is old.columns (length fs) now.places.items h.places f row s)) ∙ w) before;
    shown = refl;
  }
    where
      before : (u : ℕ) → u < old.columns + r → first_wide width (line_or_nothing (get_or (start_lines old.columns (length (map (fold_row old.columns) fs)) (map (fold_row old.columns) fs)) u None)) ≡ None
      before u l = by (let c : (u < old.columns) ⊎ (old.columns ≤ u) = grind arith in c)
        where
          by : (u < old.columns) ⊎ (old.columns ≤ u) → first_wide width (line_or_nothing (get_or (start_lines old.columns (length (map (fold_row old.columns) fs)) (map (fold_row old.columns) fs)) u None)) ≡ None
          by (inl i) = ap (λ o. first_wide width (line_or_nothing o)) (start-none old.columns (length (map (fold_row old.columns) fs)) (map (fold_row old.columns) fs) u i)
          by (inr i) =
              let q = u - old.columns in
              let k : u ≡ old.columns + (u - old.columns) = omega arith in
              let g = from_place fs r f f e in
              let p = some_place fs q (let a = g.0 in omega arith) in
              let d = h.done q p.0 (omega arith) p.1 in
              ap (λ j. first_wide width (line_or_nothing (get_or (start_lines old.columns (length (map (fold_row old.columns) fs)) (map (fold_row old.columns) fs)) j None))) k
              ∙ ap (λ o. first_wide width (line_or_nothing o)) (slack_line q p.0 p.1)
              ∙ ap (λ o. first_wide width (line_numbers o)) (sym (start_line_is old.columns (length fs) now.places.items h.places p.0 (row_at (old.columns + 2) now.cells.items q) d.0))
              ∙ line_narrow width now.places.items (row_at (old.columns + 2) now.cells.items q) d.1
