-- Stems: where the stated run ends on some rows.
use Rattle.std.specs.Prelude.{◌≡◌, ◌≢◌, ℕ, ◌+◌, ◌*◌, ◌<◌, ◌≤◌, ℤ, pos, List, take, length, slice_get, Option, Some}
use Rattle.ntfe_model.specs.declared.nogood.Fold.{Fold}
use Rattle.strict_solver.specs.declared.place.Place.{Place}
use Rattle.strict_solver.specs.declared.place.Place.TheVariants.{Column}
use Rattle.strict_solver.specs.declared.basis.Basis.{Basis}
use Rattle.strict_solver.specs.Rows.{number}
use Rattle.strict_solver.specs.Starts.{AreFoldsOver}
use Rattle.strict_solver.specs.Standing.{IsSized, StandsAtEnd}

-- what contracts see of a stem: the number of heights, its folds where it is known, and the multipliers that were found last
pub record StemValue : Type 0 where
  pub columns : ℕ
  pub folds : Option (List Fold)
  pub multipliers : List (ℕ × ℤ)

-- the basis has its memory
pub record HasMemory (b : Basis) : Type 0 where
  pub few : b.columns ≤ 400
  pub cells : length b.cells.items ≡ b.columns * (b.columns + 2)
  pub line : length b.line.items ≡ b.columns + 2

-- the basis stands at the end of the run on the folds
pub record IsKnownStem (b : Basis) (fs : List Fold) : Type 0 where
  pub sized : IsSized b
  pub over : AreFoldsOver b.columns fs
  pub stands : StandsAtEnd b fs

-- each height has its column
pub record ArePlacedHeights (columns : ℕ) (places : List Place) : Type 0 where
  pub count : length places ≡ columns
  pub each : (k : ℕ) → k < columns → slice_get places k ≡ Some (Column (k + 2))

-- the row of a height that is not basic: 1 as its denominator and at its own column, and 0 elsewhere
pub record IsItself (column : ℕ) (row : List ℤ) : Type 0 where
  pub first : number row 0 ≡ pos 1
  pub own : number row column ≡ pos 1
  pub others : (p : ℕ) → p ≢ 0 → p ≢ column → number row p ≡ pos 0

-- the basis has the numbers of the other one
pub record IsCopy (b c : Basis) : Type 0 where
  pub columns : c.columns ≡ b.columns
  pub denominator : c.denominator ≡ b.denominator
  pub cells : c.cells.items ≡ b.cells.items
  pub places : c.places.items ≡ b.places.items

-- c has the numbers of b, and of its places those of the heights and of the first n slacks
pub record IsCut (b c : Basis) (n : ℕ) : Type 0 where
  pub columns : c.columns ≡ b.columns
  pub denominator : c.denominator ≡ b.denominator
  pub cells : c.cells.items ≡ b.cells.items
  pub places : c.places.items ≡ take (b.columns + n) b.places.items

-- The folds behind the first s changed no number: for each count from s on, the basis with fewer places stands at the end of the run on the first so many.
pub record IsSettled (b : Basis) (fs : List Fold) (s : ℕ) : Type 0 where
  pub within : s ≤ length fs
  pub each : (n : ℕ) → s ≤ n → n ≤ length fs → (c : Basis) → HasMemory c → IsCut b c n → IsKnownStem c (take n fs)
