-- The start of the stated solver as a grid.
use Rattle.std.specs.Prelude.{◌≡◌, ℕ, ◌+◌, ◌*◌, ◌<◌, ◌≤◌, ℤ, pos, negsuc, List, length, slice_get, unsigned_abs, Some, vec_capacity}
use Rattle.ntfe_model.specs.Certificates.{fold_coefficient}
use Rattle.ntfe_model.specs.declared.nogood.Fold.{Fold}
use Rattle.strict_solver.specs.declared.place.Place.{Place}
use Rattle.strict_solver.specs.declared.place.Place.TheVariants.{Row, Column}
use Rattle.strict_solver.specs.declared.grid.Grid.{Grid}
use Rattle.strict_solver.specs.Rows.{number}

-- the fold's points are numbers from 1 to the number of columns, and its multipliers are small
pub record IsFoldOver (columns : ℕ) (f : Fold) : Type 0 where
  pub a : (1 ≤ f.a) × (f.a ≤ columns)
  pub b : (1 ≤ f.b) × (f.b ≤ columns)
  pub c : (1 ≤ f.c) × (f.c ≤ columns)
  pub d : (1 ≤ f.d) × (f.d ≤ columns)
  pub alpha : unsigned_abs f.alpha ≤ 4094
  pub beta : unsigned_abs f.beta ≤ 4094

-- each height has its column, and each slack its row
pub record IsStartPlacing (columns rows : ℕ) (places : List Place) : Type 0 where
  pub count : length places ≡ columns + rows
  pub heights : (k : ℕ) → k < columns → slice_get places k ≡ Some (Column (k + 2))
  pub slacks : (r : ℕ) → r < rows → slice_get places (columns + r) ≡ Some (Row r)

-- the row t = -1 + .. of a fold
pub record IsStartRow (columns : ℕ) (f : Fold) (row : List ℤ) : Type 0 where
  pub count : length row ≡ columns + 2
  pub d : number row 0 ≡ pos 1
  pub c : number row 1 ≡ negsuc 0
  pub coefficients : (k : ℕ) → k < columns → number row (k + 2) ≡ fold_coefficient f (k + 1)

pub record AreFoldsOver (columns : ℕ) (fs : List Fold) : Type 0 where
  pub each : (j : ℕ) (f : Fold) → slice_get fs j ≡ Some f → IsFoldOver columns f

-- the grid's memory suffices for so many rows
pub record HasRoomFor (rows : ℕ) (g : Grid) : Type 0 where
  pub few : g.columns ≤ 400
  pub cells : rows * (g.columns + 2) ≤ length g.cells.items
  pub places : g.columns + rows ≤ vec_capacity g.places
  pub pivot : length g.pivot.numbers.items ≡ g.columns + 2
  pub scratch : length g.scratch.items ≡ g.columns + 2
