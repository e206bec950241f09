-- A grid after a pivot, from what its steps leave.
use Rattle.std.proofs.Common.{◌≡◌, ◌≢◌, ℕ, zero, suc, ◌+◌, ◌*◌, ◌^◌, ◌<◌, ◌≤◌, ◌⊎◌, inl, inr, sym, ap, ◌∙◌, subst, arith, ℤ, pos, ◌<ℤ◌, List, [], ◌∷◌, length, set, length-set, get_or-set_same, get_or-set_other, unsigned_abs, Option, Some}
use Rattle.std.specs.Prelude.{slice_get}
use Rattle.ntfe_model.specs.Solver.{Line, IsPivot}
use Rattle.strict_solver.specs.declared.place.Place.{Place}
use Rattle.strict_solver.specs.declared.place.Place.TheVariants.{Row, Column}
use Rattle.strict_solver.specs.declared.row.PivotRow.{PivotRow}
use Rattle.strict_solver.specs.declared.grid.Grid.{Grid}
use Rattle.strict_solver.specs.Rows.{number, AreNarrow, IsLowRow, IsSolvedRow, IsCombination}
use Rattle.strict_solver.specs.ShortRows.{IsLargest}
use Rattle.strict_solver.specs.Grids.{row_at, lines_by, lines_of, IsPivotRow, AreRowsFor, IsEliminated, IsFirstWideRow, IsPlacing, IsGrid, IsWidePivot}
use Rattle.strict_solver.proofs.Rows.{wider_narrow, zero_narrow}
use Rattle.strict_solver.proofs.Elimination.{same_place}
use Rattle.strict_solver.proofs.Parts.{row_length}
use Rattle.strict_solver.proofs.Placing.{came, at_others, placing_after}
use Rattle.strict_solver.proofs.Tables.{new_low, other_low, grid_pivot, stepped, step_wide}
use Rattle.strict_solver.proofs.Steps.{step_lines}

-- the row without its d
pub headless_narrow : (width : ℕ) (row : List ℤ) → AreNarrow width row → AreNarrow width (set row 0 (pos 0))
headless_narrow width row n = record { each = λ k. at k }
  where
    at : (k : ℕ) → unsigned_abs (number (set row 0 (pos 0)) k) < 2 ^ width
    at zero = zeroed row
      where
        zeroed : (zs : List ℤ) → unsigned_abs (number (set zs 0 (pos 0)) 0) < 2 ^ width
        zeroed [] = zero_narrow width
        zeroed (z ∷ zs) = zero_narrow width
    at (suc k) = subst (λ z. unsigned_abs z < 2 ^ width) (sym (get_or-set_other row 0 (suc k) (pos 0) (pos 0) (λ e. omega arith))) (n.each (suc k))

module _ (width x y r p : ℕ) (old : Grid) (mid : List ℤ) (h : IsGrid width old) (ex : slice_get old.places.items x ≡ Some (Row r)) (ey : slice_get old.places.items y ≡ Some (Column p))
    (some : number (row_at (old.columns + 2) old.cells.items r) p ≢ pos 0) (solved : IsSolvedRow (row_at (old.columns + 2) old.cells.items r) p (row_at (old.columns + 2) mid r))
    (others : (q : ℕ) → q ≢ r → row_at (old.columns + 2) mid q ≡ row_at (old.columns + 2) old.cells.items q) where
  abbrev pub stands : List Place
  stands = set (set old.places.items x (Column p)) y (Row r)

  rows : (q : ℕ) → old.columns + q < length old.places.items → length (row_at (old.columns + 2) old.cells.items q) ≡ old.columns + 2
  rows q l = row_length (old.columns + 2) old.cells.items q (h.room q l)

  r_within : old.columns + r < length old.places.items
  r_within = h.placing.rows_within x r ex

  pub mid_low : IsLowRow width (row_at (old.columns + 2) mid r)
  mid_low = new_low old.columns width old.places.items h.placing x y r p ex ey old.cells.items mid h.low rows some solved

  after : IsPlacing old.columns (set (set old.places.items x (Column p)) y (Row r))
  after = placing_after old.columns old.places.items h.placing x y r p ex ey

  same_length : length (set (set old.places.items x (Column p)) y (Row r)) ≡ length old.places.items
  same_length = length-set (set old.places.items x (Column p)) y (Row r) ∙ length-set old.places.items x (Column p)

  -- the rows of variables that keep their places
  forth : (v q : ℕ) → slice_get old.places.items v ≡ Some (Row q) → q ≢ r → slice_get (set (set old.places.items x (Column p)) y (Row r)) v ≡ Some (Row q)
  forth v q e n =
      at_others old.places.items x y r p ex ey v
      (λ f. n (let g : Row q ≡ Row r = same_place old.places.items x _ _ (subst (λ k. slice_get old.places.items k ≡ Some (Row q)) f e) ex in let i : q ≡ r = cc in i))
      (λ f. let g : Row q ≡ Column p = same_place old.places.items y _ _ (subst (λ k. slice_get old.places.items k ≡ Some (Row q)) f e) ey in cc)
      ∙ e

  back : (v q : ℕ) → slice_get (set (set old.places.items x (Column p)) y (Row r)) v ≡ Some (Row q) → q ≢ r → slice_get old.places.items v ≡ Some (Row q)
  back v q e n = by (came old.places.items x y r p ex ey v (Row q) e)
    where
      by : ((v ≡ x) × (Row q ≡ Column p)) ⊎ ((v ≡ y) × (Row q ≡ Row r)) ⊎ ((v ≢ x) × (v ≢ y) × (slice_get old.places.items v ≡ Some (Row q))) → slice_get old.places.items v ≡ Some (Row q)
      by (inl f) = let g : Row q ≡ Column p = f.1 in cc
      by (inr (inl f)) = absurd (n (let g : Row q ≡ Row r = f.1 in let i : q ≡ r = cc in i))
      by (inr (inr f)) = f.2

  -- the pivot row can be put into the others
  pub ready : (m : List ℤ) (places : List Place) (s : ℕ) → length m ≡ length old.cells.items → m ≡ mid → places ≡ set (set old.places.items x (Column p)) y (Row r) → s ≡ old.columns + 2 → AreRowsFor width s places r m
  ready m places s count em ep es =
      let P : List ℤ → Type 0 = λ k. AreRowsFor width s places r k in
      let Q : List Place → Type 0 = λ k. AreRowsFor width s k r mid in
      let R : ℕ → Type 0 = λ k. AreRowsFor width k (set (set old.places.items x (Column p)) y (Row r)) r mid in
      subst P (sym em) (subst Q (sym ep) (subst R (sym es) (record {
        within = record { each = λ v q e. (after.columns_within v q e).1 };
        room = λ v q e. (let a = h.room q (let b = after.rows_within v q e in let d = same_length in omega arith) in let d = count in let e = ap (λ (k : List ℤ). length k) em in omega arith);
        low = λ v q e n. (let T : List ℤ → Type 0 = λ k. IsLowRow width k in subst T (sym (others q n)) (h.low v q (back v q e n)));
        apart = λ u v q e f. after.apart u v (Row q) e f;
        taken = after.taken;
      })))

  old_form : (q : ℕ) (new : List ℤ) → q ≢ r → IsCombination (row_at (old.columns + 2) mid q) p (set (row_at (old.columns + 2) mid r) 0 (pos 0)) (number (row_at (old.columns + 2) mid r) 0) new
      → IsCombination (row_at (old.columns + 2) old.cells.items q) p (set (row_at (old.columns + 2) mid r) 0 (pos 0)) (number (row_at (old.columns + 2) mid r) 0) new
  old_form q new n c = let T : List ℤ → Type 0 = λ k. IsCombination k p (set (row_at (old.columns + 2) mid r) 0 (pos 0)) (number (row_at (old.columns + 2) mid r) 0) new in subst T (others q n) c

  module _ (now : List ℤ) (count : length now ≡ length old.cells.items) (same : row_at (old.columns + 2) now r ≡ row_at (old.columns + 2) mid r)
      (done : (v q : ℕ) → slice_get (set (set old.places.items x (Column p)) y (Row r)) v ≡ Some (Row q) → q ≢ r
      → IsCombination (row_at (old.columns + 2) mid q) p (set (row_at (old.columns + 2) mid r) 0 (pos 0)) (number (row_at (old.columns + 2) mid r) 0) (row_at (old.columns + 2) now q) × AreNarrow width (row_at (old.columns + 2) now q)) where
    pub pivoted : IsPivot x y (lines_by (old.columns + 2) old.places.items old.cells.items) (lines_by (old.columns + 2) (set (set old.places.items x (Column p)) y (Row r)) now)
    pivoted =
        grid_pivot old.columns width old.places.items h.placing x y r p ex ey old.cells.items mid h.low rows some solved now same
        (λ v q e n. old_form q (row_at (old.columns + 2) now q) n (done v q (forth v q e n) n).0)

    now_low : (v q : ℕ) → slice_get (set (set old.places.items x (Column p)) y (Row r)) v ≡ Some (Row q) → IsLowRow width (row_at (old.columns + 2) now q)
    now_low v q e = by (let c : (q ≡ r) ⊎ (q ≢ r) = grind arith in c)
      where
        by : (q ≡ r) ⊎ (q ≢ r) → IsLowRow width (row_at (old.columns + 2) now q)
        by (inl f) =
            let P : List ℤ → Type 0 = λ k. IsLowRow width k in
            let Q : ℕ → Type 0 = λ k. IsLowRow width (row_at (old.columns + 2) now k) in
            subst Q (sym f) (subst P (sym same) mid_low)
        by (inr n) =
            let d = done v q e n in
            other_low old.columns width old.places.items h.placing x y r p ex ey old.cells.items mid h.low rows some solved v q (row_at (old.columns + 2) now q) (back v q e n) (old_form q (row_at (old.columns + 2) now q) n d.0) d.1

    -- the grid that has these numbers at these places
    pub grid_after : (new : Grid) → new.columns ≡ old.columns → new.places.items ≡ set (set old.places.items x (Column p)) y (Row r) → new.cells.items ≡ now
        → length new.pivot.numbers.items ≡ old.columns + 2 → length new.scratch.items ≡ old.columns + 2 → IsGrid width new × IsPivot x y (lines_of old) (lines_of new)
    grid_after new ec ep en numbers scratch =
        let room : (q : ℕ) → old.columns + q < length (set (set old.places.items x (Column p)) y (Row r)) → q * (old.columns + 2) + (old.columns + 2) ≤ length now =
        λ q l. (let a = h.room q (let d = same_length in omega arith) in let d = count in omega arith) in
        let P : ℕ → Type 0 = λ k. IsPlacing k (set (set old.places.items x (Column p)) y (Row r)) in
        let Q : List Place → Type 0 = λ k. IsPlacing new.columns k in
        let lines : lines_of new ≡ lines_by (old.columns + 2) (set (set old.places.items x (Column p)) y (Row r)) now = λ i. lines_by (ec i + 2) (ep i) (en i) in
        let T : List (Option Line) → Type 0 = λ k. IsPivot x y (lines_of old) k in (
          record {
            few = (let a = h.few in let d = ec in omega arith);
            placing = subst Q (sym ep) (subst P (sym ec) after);
            room = λ q l. (let R : ℕ → Type 0 = λ k. q * (k + 2) + (k + 2) ≤ length now in
                let S : List ℤ → Type 0 = λ k. q * (new.columns + 2) + (new.columns + 2) ≤ length k in
                let d = ap (λ (k : List Place). length k) ep in
                subst S (sym en) (subst R (sym ec) (room q (let b = ec in omega arith))));
            low = λ v q e. (let R : ℕ → Type 0 = λ k. IsLowRow width (row_at (k + 2) now q) in
                let S : List ℤ → Type 0 = λ k. IsLowRow width (row_at (new.columns + 2) k q) in
                let U : List Place → Type 0 = λ k. slice_get k v ≡ Some (Row q) in
                subst S (sym en) (subst R (sym ec) (now_low v q (subst U ep e))));
            pivot = numbers ∙ ap (λ k. k + 2) (sym ec);
            scratch = scratch ∙ ap (λ k. k + 2) (sym ec);
          },
          subst T (sym lines) pivoted,
        )

  -- ---- where a row is wide
  module _ (pivot : PivotRow) (row_is : pivot.row ≡ r) (column_is : pivot.column ≡ p) (denominator_is : pivot.denominator ≡ number (row_at (old.columns + 2) mid r) 0)
      (numbers_are : pivot.numbers.items ≡ set (row_at (old.columns + 2) mid r) 0 (pos 0)) where
    -- what the pivot row's combinations are
    pub plainly : (from new : List ℤ) → IsEliminated pivot from new → IsCombination from p (set (row_at (old.columns + 2) mid r) 0 (pos 0)) (number (row_at (old.columns + 2) mid r) 0) new
    plainly from new c =
        let P : ℕ → Type 0 = λ k. IsCombination from k pivot.numbers.items pivot.denominator new in
        let Q : List ℤ → Type 0 = λ k. IsCombination from p k pivot.denominator new in
        let R : ℤ → Type 0 = λ k. IsCombination from p (set (row_at (old.columns + 2) mid r) 0 (pos 0)) k new in
        subst R denominator_is (subst Q numbers_are (subst P column_is c))

    pub pivot_row : (s : ℕ) → s ≡ old.columns + 2 → width ≤ 62 → IsLargest pivot.numbers.items pivot.largest → IsPivotRow s pivot
    pivot_row s es w largest =
        let T : List ℤ → Type 0 = λ k. AreNarrow 62 k in
        let c = h.placing.columns_within y p ey in
        let n = (solved.count ∙ rows r r_within) in
        record {
          narrow = subst T (sym numbers_are) (headless_narrow 62 (row_at (old.columns + 2) mid r) (wider_narrow width 62 (row_at (old.columns + 2) mid r) w mid_low.narrow));
          largest = largest;
          count = ap (λ (k : List ℤ). length k) numbers_are ∙ length-set (row_at (old.columns + 2) mid r) 0 (pos 0) ∙ n ∙ sym es;
          first = ap (λ k. number k 0) numbers_are ∙ get_or-set_same (row_at (old.columns + 2) mid r) 0 (pos 0) (pos 0) (omega arith);
          positive = subst (λ z. pos 0 <ℤ z) (sym denominator_is) mid_low.positive;
          small = subst (λ z. unsigned_abs z < 2 ^ 62) (sym denominator_is) ((wider_narrow width 62 (row_at (old.columns + 2) mid r) w mid_low.narrow).each 0);
          after = (let a = c.0 in let b = column_is in omega arith);
          within = (let a = c.1 in let b = column_is in omega arith);
        }

    pub wide_pivot : (z : ℤ) → IsFirstWideRow width (old.columns + 2) (set (set old.places.items x (Column p)) y (Row r)) pivot mid z → IsWidePivot width x y (lines_by (old.columns + 2) old.places.items old.cells.items) z
    wide_pivot z f =
        let n : f.r ≢ r = λ e. f.other (e ∙ sym row_is) in
        record {
          table = step_lines x y (lines_by (old.columns + 2) old.places.items old.cells.items);
          is = stepped old.columns width old.places.items h.placing x y r p ex ey old.cells.items mid h.low rows some solved;
          first =
              step_wide old.columns width old.places.items h.placing x y r p ex ey old.cells.items mid h.low rows some solved z f.v f.r (back f.v f.r f.is n) n f.row (old_form f.r f.row n (plainly _ f.row f.form)) f.number
              (λ u t l e m. let b = f.before u t l (forth u t e m) (λ g. m (g ∙ row_is)) in (b.0, (old_form t b.0 m (plainly _ b.0 b.1.0), b.1.1)));
        }
