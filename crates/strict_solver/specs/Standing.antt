-- A basis: rows of all heights over the variables that are not basic, with one denominator, and the table that they stand for.
use Rattle.std.specs.Prelude.{◌≡◌, ◌≢◌, ℕ, ◌+◌, ◌-◌, ◌*◌, ◌^◌, ◌<◌, ◌≤◌, ℤ, pos, ◌+ℤ◌, ◌-ℤ◌, ◌*ℤ◌, ◌<ℤ◌, ◌≤ℤ◌, unsigned_abs, List, [], ◌∷◌, ◌++◌, map, length, slice_get, slice_index_or, slice_set, Option, Some, None}
use Rattle.std.specs.Int.{◌∣◌}
use Rattle.ntfe_nums.specs.Vectors.{sign}
use Rattle.ntfe_model.specs.declared.nogood.Fold.{Fold}
use Rattle.ntfe_model.specs.Solver.{Line, Table, fold_row, moving}
use Rattle.ntfe_model.specs.Solver.Move.{infeasible}
use Rattle.strict_solver.specs.declared.place.Place.{Place}
use Rattle.strict_solver.specs.declared.place.Place.TheVariants.{Row, Column}
use Rattle.strict_solver.specs.declared.basis.Basis.{Basis}
use Rattle.strict_solver.specs.Rows.{number, AreNarrow, line_in}
use Rattle.strict_solver.specs.Grids.{row_at}
use Rattle.strict_solver.specs.Mixing.{AreNarrowRows}
use Rattle.strict_solver.specs.Equations.{Holds, LineHolds}
use Rattle.strict_solver.specs.Continuing.{EndsWith, HasLoadedTo}

-- the value of a fold where the point with this number has the value g of it, less 1
abbrev pub fold_sum : (ℕ → ℤ) → Fold → ℤ
fold_sum g f = g (f.c - 1) +ℤ g (f.d - 1) -ℤ f.alpha *ℤ g (f.a - 1) -ℤ f.beta *ℤ g (f.b - 1)

-- the number at this place of a height's row
abbrev pub cell_at : ℕ → List ℤ → ℕ → ℕ → ℤ
cell_at columns cells p k = number (row_at (columns + 2) cells k) p

-- each number is the fold of the heights' rows at its place, and below 2^30 in size
pub record IsFoldOfRows (stride : ℕ) (cells : List ℤ) (f : Fold) (line : List ℤ) : Type 0 where
  pub each : (p : ℕ) → p < stride → number line p ≡ fold_sum (λ k. number (row_at stride cells k) p) f
  pub narrow : AreNarrow 30 line

-- the row of a fold's slack: the fold of the heights' rows, less the denominator
pub record IsSlackRow (columns : ℕ) (cells : List ℤ) (d : ℤ) (f : Fold) (line : List ℤ) : Type 0 where
  pub count : length line ≡ columns + 2
  pub first : number line 0 ≡ d
  pub constant : number line 1 ≡ fold_sum (cell_at columns cells 1) f -ℤ d
  pub coefficients : (p : ℕ) → 2 ≤ p → p < columns + 2 → number line p ≡ fold_sum (cell_at columns cells p) f

-- a row once the line is solved for the column's variable and put in its place. All has a new denominator, and is whole
pub record IsPutIn (line : List ℤ) (column : ℕ) (d : ℤ) (old new : List ℤ) : Type 0 where
  pub count : length new ≡ length old
  pub first : number new 0 ≡ sign (number line column) *ℤ number line column
  pub at : number new column ≡ sign (number line column) *ℤ number old column
  pub others : (j : ℕ) → j ≢ 0 → j ≢ column
      → d *ℤ number new j ≡ (sign (number line column) *ℤ number line column) *ℤ number old j -ℤ (sign (number line column) *ℤ number old column) *ℤ number line j
  pub narrow : AreNarrow 30 new

-- Each variable that is not basic in the table has a column of its own, and each column has one. The row of each height has the denominator, and holds where the
-- table's rows do.
pub record StandsFor (columns : ℕ) (places : List Place) (cells : List ℤ) (d : ℤ) (s : List (Option Line)) : Type 0 where
  pub count : length places ≡ length s
  pub basic : (v r : ℕ) → slice_get places v ≡ Some (Row r) → (l : Line) × (slice_index_or s v None ≡ Some l)
  pub other : (v p : ℕ) → slice_get places v ≡ Some (Column p) → slice_index_or s v None ≡ None
  pub within : (v p : ℕ) → slice_get places v ≡ Some (Column p) → (2 ≤ p) × (p < columns + 2)
  pub apart : (u v p : ℕ) → slice_get places u ≡ Some (Column p) → slice_get places v ≡ Some (Column p) → u ≡ v
  pub taken : (p : ℕ) → 2 ≤ p → p < columns + 2 → (v : ℕ) × (slice_get places v ≡ Some (Column p))
  pub positive : pos 0 <ℤ d
  pub first : (k : ℕ) → k < columns → cell_at columns cells 0 k ≡ d
  pub holds : (one : ℤ) (vs : List ℤ) → length vs ≡ length s → Holds one vs s → (k : ℕ) → k < columns → LineHolds one vs k (line_in places (row_at (columns + 2) cells k))

-- the basis has its rows, and all numbers are below 2^30 in size
pub record IsSized (b : Basis) : Type 0 where
  pub few : b.columns ≤ 400
  pub cells : length b.cells.items ≡ b.columns * (b.columns + 2)
  pub line : length b.line.items ≡ b.columns + 2
  pub narrow : AreNarrowRows b.columns (b.columns + 2) b.cells.items
  pub positive : pos 0 <ℤ b.denominator
  pub small : unsigned_abs b.denominator < 2 ^ 30

-- the basis stands for this table
abbrev pub IsBasisOf : Basis → List (Option Line) → Type 0
IsBasisOf b s = StandsFor b.columns b.places.items b.cells.items b.denominator s

-- the basis stands for the end of the run on the folds, which is feasible
pub record StandsAtEnd (b : Basis) (fs : List Fold) : Type 0 where
  pub end : Table
  pub ends : EndsWith b.columns (map (fold_row b.columns) fs) end
  pub stands : IsBasisOf b end.lines

-- the basis stands for a table of the run on the folds, where no height is left to be loaded
pub record StandsLoaded (b : Basis) (fs : List Fold) : Type 0 where
  pub table : Table
  pub loaded : HasLoadedTo b.columns (map (fold_row b.columns) fs) table
  pub stands : IsBasisOf b table.lines

-- the row of the fold's slack, kept for a pivot, is below 2^30 too
pub record HasSlackRow (b : Basis) (f : Fold) : Type 0 where
  pub row : IsSlackRow b.columns b.cells.items b.denominator f b.line.items
  pub narrow : AreNarrow 30 b.line.items

-- the constant of the row of a fold's slack
abbrev pub constant_of : Basis → Fold → ℤ
constant_of b f = fold_sum (cell_at b.columns b.cells.items 1) f -ℤ b.denominator

-- no slack of the folds is negative
abbrev pub HasNoneBelow : Basis → List Fold → Type 0
HasNoneBelow b fs = (j : ℕ) (f : Fold) → slice_get fs j ≡ Some f → pos 0 ≤ℤ constant_of b f

-- the slack of this fold is the first that is negative
pub record IsFirstBelow (b : Basis) (fs : List Fold) (j : ℕ) : Type 0 where
  pub fold : Fold
  pub is : slice_get fs j ≡ Some fold
  pub below : constant_of b fold <ℤ pos 0
  pub before : (i : ℕ) (f : Fold) → i < j → slice_get fs i ≡ Some f → pos 0 ≤ℤ constant_of b f

-- the fold has no height that is not basic
abbrev pub LoadsNothing : Basis → Fold → Type 0
LoadsNothing b f = (j p : ℕ) → j < b.columns → slice_get b.places.items j ≡ Some (Column p) → fold_sum (cell_at b.columns b.cells.items p) f ≡ pos 0

-- the first height that is not basic and that the fold has
pub record IsFirstHeight (b : Basis) (f : Fold) (k : ℕ) : Type 0 where
  pub within : k < b.columns
  pub column : ℕ
  pub is : slice_get b.places.items k ≡ Some (Column column)
  pub some : fold_sum (cell_at b.columns b.cells.items column) f ≢ pos 0
  pub before : (j p : ℕ) → j < k → slice_get b.places.items j ≡ Some (Column p) → fold_sum (cell_at b.columns b.cells.items p) f ≡ pos 0

-- no slack that is not basic has a positive coefficient in the kept line
abbrev pub HasNoneEntering : Basis → Type 0
HasNoneEntering b = (y p : ℕ) → b.columns ≤ y → slice_get b.places.items y ≡ Some (Column p) → number b.line.items p ≤ℤ pos 0

-- the first slack that is not basic and has a positive coefficient in the kept line
pub record IsFirstToEnter (b : Basis) (y : ℕ) : Type 0 where
  pub slack : b.columns ≤ y
  pub column : ℕ
  pub is : slice_get b.places.items y ≡ Some (Column column)
  pub positive : pos 0 <ℤ number b.line.items column
  pub before : (j p : ℕ) → b.columns ≤ j → j < y → slice_get b.places.items j ≡ Some (Column p) → number b.line.items p ≤ℤ pos 0

-- the basis keeps its sizes
pub record HasSameSizes (b c : Basis) : Type 0 where
  pub columns : c.columns ≡ b.columns
  pub cells : length c.cells.items ≡ length b.cells.items
  pub line : length c.line.items ≡ length b.line.items

-- only the kept line has changed
pub record HasOtherLine (b c : Basis) : Type 0 where
  pub columns : c.columns ≡ b.columns
  pub denominator : c.denominator ≡ b.denominator
  pub cells : c.cells ≡ b.cells
  pub places : c.places ≡ b.places
  pub line : length c.line.items ≡ length b.line.items

-- only a slack's place, the last, has come
pub record HasOneMore (b c : Basis) : Type 0 where
  pub columns : c.columns ≡ b.columns
  pub denominator : c.denominator ≡ b.denominator
  pub cells : c.cells ≡ b.cells
  pub places : c.places.items ≡ b.places.items ++ Row 0 ∷ []
  pub line : c.line ≡ b.line

-- the kept line, solved for the variable y, was put into all rows, and y and the variable x of the line have changed their places
pub record IsExchanged (b c : Basis) (x y : ℕ) : Type 0 where
  pub row : ℕ
  pub column : ℕ
  pub leaves : slice_get b.places.items x ≡ Some (Row row)
  pub enters : slice_get b.places.items y ≡ Some (Column column)
  pub columns : c.columns ≡ b.columns
  pub places : c.places.items ≡ slice_set (slice_set b.places.items x (Column column)) y (Row row)
  pub denominator : c.denominator ≡ sign (number b.line.items column) *ℤ number b.line.items column
  pub put : (k : ℕ) → k < b.columns → IsPutIn b.line.items column b.denominator (row_at (b.columns + 2) b.cells.items k) (row_at (b.columns + 2) c.cells.items k)
  pub sized : IsSized c

-- at this fold's slack, whose line is kept, the run on the folds ends infeasible
pub record IsStuck (b : Basis) (fs : List Fold) (j : ℕ) : Type 0 where
  pub stands : StandsLoaded b fs
  pub fold : Fold
  pub is : slice_get fs j ≡ Some fold
  pub line : HasSlackRow b fold
  pub moves : moving b.columns stands.table.lines ≡ infeasible (b.columns + j)

-- the line has the denominator and the constants of the heights, divided by a number so that only 1 divides all that is left
pub record HasHeights (b : Basis) (line : List ℤ) : Type 0 where
  pub count : length line ≡ b.columns + 2
  pub factor : ℕ
  pub some : 0 < factor
  pub first : pos factor *ℤ number line 0 ≡ b.denominator
  pub each : (k : ℕ) → k < b.columns → pos factor *ℤ number line (k + 1) ≡ cell_at b.columns b.cells.items 1 k
  pub lowest : (m : ℕ) → ((j : ℕ) → j < b.columns + 1 → m ∣ unsigned_abs (number line j)) → m ≡ 1
