-- A grid of numbers and the table that it stands for.
use Rattle.std.specs.Prelude.{◌≡◌, ◌≢◌, ℕ, ◌+◌, ◌*◌, ◌^◌, ◌<◌, ◌≤◌, ℤ, pos, ◌<ℤ◌, unsigned_abs, List, map, length, slice_get, slice_range, flat_map, Option, Some, None, vec_capacity}
use Rattle.ntfe_model.specs.Solver.{Line, line_numbers, line_or_nothing, coefficient_at, first_wide, IsPivot}
use Rattle.strict_solver.specs.Rows.{number, AreNarrow, IsLowRow, IsCombination, line_in, PlacesWithin}
use Rattle.strict_solver.specs.ShortRows.{IsLargest}
use Rattle.strict_solver.specs.declared.place.Place.{Place}
use Rattle.strict_solver.specs.declared.place.Place.TheVariants.{Row, Column}
use Rattle.strict_solver.specs.declared.row.PivotRow.{PivotRow}
use Rattle.strict_solver.specs.declared.grid.Grid.{Grid}

-- the numbers of a row
abbrev pub row_at : ℕ → List ℤ → ℕ → List ℤ
row_at stride cells r = slice_range cells (r * stride) (r * stride + stride)

-- a pivot row that can be put into rows of this length
pub record IsPivotRow (stride : ℕ) (pivot : PivotRow) : Type 0 where
  pub narrow : AreNarrow 62 pivot.numbers.items
  pub largest : IsLargest pivot.numbers.items pivot.largest
  pub count : length pivot.numbers.items ≡ stride
  pub first : number pivot.numbers.items 0 ≡ pos 0
  pub positive : pos 0 <ℤ pivot.denominator
  pub small : unsigned_abs pivot.denominator < 2 ^ 62
  pub after : 2 ≤ pivot.column
  pub within : pivot.column < stride

-- rows that the pivot row can be put into
pub record AreRowsFor (width stride : ℕ) (places : List Place) (pivot : ℕ) (cells : List ℤ) : Type 0 where
  pub within : PlacesWithin stride places
  pub room : (v r : ℕ) → slice_get places v ≡ Some (Row r) → r * stride + stride ≤ length cells
  pub low : (v r : ℕ) → slice_get places v ≡ Some (Row r) → r ≢ pivot → IsLowRow width (row_at stride cells r)
  pub apart : (u v r : ℕ) → slice_get places u ≡ Some (Row r) → slice_get places v ≡ Some (Row r) → u ≡ v
  pub taken : (p : ℕ) → 2 ≤ p → p < stride → (v : ℕ) × (slice_get places v ≡ Some (Column p))

-- the row with the pivot row put in
abbrev pub IsEliminated : PivotRow → List ℤ → List ℤ → Type 0
IsEliminated pivot old new = IsCombination old pivot.column pivot.numbers.items pivot.denominator new

-- all other rows have the pivot row put in, and are narrow
pub record AreEliminated (width stride : ℕ) (places : List Place) (pivot : PivotRow) (old new : List ℤ) : Type 0 where
  pub each : (v r : ℕ) → slice_get places v ≡ Some (Row r) → r ≢ pivot.row → IsEliminated pivot (row_at stride old r) (row_at stride new r) × AreNarrow width (row_at stride new r)

-- the first row, in the order of the variables, that is wide with the pivot row put in has this as its first wide number
pub record IsFirstWideRow (width stride : ℕ) (places : List Place) (pivot : PivotRow) (old : List ℤ) (z : ℤ) : Type 0 where
  pub v : ℕ
  pub r : ℕ
  pub is : slice_get places v ≡ Some (Row r)
  pub other : r ≢ pivot.row
  pub row : List ℤ
  pub form : IsEliminated pivot (row_at stride old r) row
  pub number : first_wide width (line_numbers (line_in places row)) ≡ Some z
  pub before : (u q : ℕ) → u < v → slice_get places u ≡ Some (Row q) → q ≢ pivot.row → (new : List ℤ) × (IsEliminated pivot (row_at stride old q) new × AreNarrow width new)

-- ---- the table of a grid

-- the heights come first, then the slacks; each has a row or a column of its own, and each column has a variable
pub record IsPlacing (columns : ℕ) (places : List Place) : Type 0 where
  pub count : columns ≤ length places
  pub rows_within : (v r : ℕ) → slice_get places v ≡ Some (Row r) → columns + r < length places
  pub columns_within : (v p : ℕ) → slice_get places v ≡ Some (Column p) → (2 ≤ p) × (p < columns + 2)
  pub apart : (u v : ℕ) (o : Place) → slice_get places u ≡ Some o → slice_get places v ≡ Some o → u ≡ v
  pub taken : (p : ℕ) → 2 ≤ p → p < columns + 2 → (v : ℕ) × (slice_get places v ≡ Some (Column p))

abbrev pub line_at : ℕ → List Place → List ℤ → Place → Option Line
line_at stride places cells (Row r) = Some (line_in places (row_at stride cells r))
line_at stride places cells (Column p) = None

unfoldable pub lines_by : ℕ → List Place → List ℤ → List (Option Line)
lines_by stride places cells = map (line_at stride places cells) places

-- the table that the grid stands for
abbrev pub lines_of : Grid → List (Option Line)
lines_of g = lines_by (g.columns + 2) g.places.items g.cells.items

-- a grid in which each row is in lowest form and narrow
pub record IsGrid (width : ℕ) (g : Grid) : Type 0 where
  pub few : g.columns ≤ 400
  pub placing : IsPlacing g.columns g.places.items
  pub room : (r : ℕ) → g.columns + r < length g.places.items → r * (g.columns + 2) + (g.columns + 2) ≤ length g.cells.items
  pub low : (v r : ℕ) → slice_get g.places.items v ≡ Some (Row r) → IsLowRow width (row_at (g.columns + 2) g.cells.items r)
  pub pivot : length g.pivot.numbers.items ≡ g.columns + 2
  pub scratch : length g.scratch.items ≡ g.columns + 2

-- the grid has the sizes that it had
pub record HasSameSize (g h : Grid) : Type 0 where
  pub columns : h.columns ≡ g.columns
  pub cells : length h.cells.items ≡ length g.cells.items
  pub places : length h.places.items ≡ length g.places.items
  pub capacity : vec_capacity h.places ≡ vec_capacity g.places
  pub pivot : length h.pivot.numbers.items ≡ length g.pivot.numbers.items
  pub scratch : length h.scratch.items ≡ length g.scratch.items

-- the table can be pivoted on x and y
pub record IsPivotable (x y : ℕ) (s : List (Option Line)) : Type 0 where
  pub row : Line
  pub is : slice_get s x ≡ Some (Some row)
  pub other : slice_get s y ≡ Some None
  pub not_zero : coefficient_at row y ≢ pos 0

-- the table after the pivot has this as its first wide number
pub record IsWidePivot (width x y : ℕ) (s : List (Option Line)) (number : ℤ) : Type 0 where
  pub table : List (Option Line)
  pub is : IsPivot x y s table
  pub first : first_wide width (flat_map line_or_nothing table) ≡ Some number

-- the grid has the memory that it had
pub record HasSameRoom (g h : Grid) : Type 0 where
  pub columns : h.columns ≡ g.columns
  pub cells : length h.cells.items ≡ length g.cells.items
  pub capacity : vec_capacity h.places ≡ vec_capacity g.places
  pub pivot : length h.pivot.numbers.items ≡ length g.pivot.numbers.items
  pub scratch : length h.scratch.items ≡ length g.scratch.items
