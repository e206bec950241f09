-- One row of a grid as a list of numbers: its d, its c, and a coefficient for each column.
use Rattle.std.specs.Prelude.{◌≡◌, ◌≢◌, ℕ, ◌^◌, ◌<◌, ◌≤◌, ℤ, pos, ◌+ℤ◌, ◌*ℤ◌, neg_ℤ, ◌<ℤ◌, unsigned_abs, List, map, length, slice_get, slice_index_or, slice_set, Some}
use Rattle.std.specs.Int.{◌∣◌}
use Rattle.ntfe_nums.specs.Vectors.{sign}
use Rattle.ntfe_model.specs.Solver.{Line}
use Rattle.strict_solver.specs.declared.place.Place.{Place}
use Rattle.strict_solver.specs.declared.place.Place.TheVariants.{Row, Column}

-- the number at a place, and 0 past the end
abbrev pub number : List ℤ → ℕ → ℤ
number row k = slice_index_or row k (pos 0)

-- each number is below 2^width in size
pub record AreNarrow (width : ℕ) (row : List ℤ) : Type 0 where
  pub each : (k : ℕ) → unsigned_abs (number row k) < 2 ^ width

-- some number is not
pub record IsWideRow (width : ℕ) (row : List ℤ) : Type 0 where
  pub k : ℕ
  pub within : k < length row
  pub wide : 2 ^ width ≤ unsigned_abs (number row k)

-- the greatest common divisor of all numbers
pub record IsCommonDivisor (row : List ℤ) (g : ℕ) : Type 0 where
  pub divides : (k : ℕ) → g ∣ unsigned_abs (number row k)
  pub greatest : (m : ℕ) → ((k : ℕ) → m ∣ unsigned_abs (number row k)) → m ∣ g

-- d is positive, no number is wide, and only 1 divides all numbers
pub record IsLowRow (width : ℕ) (row : List ℤ) : Type 0 where
  pub positive : pos 0 <ℤ number row 0
  pub narrow : AreNarrow width row
  pub lowest : (m : ℕ) → ((k : ℕ) → m ∣ unsigned_abs (number row k)) → m ≡ 1

-- the row solved for the variable of a column, where the variable of the row then stands
pub record IsSolvedRow (old : List ℤ) (column : ℕ) (new : List ℤ) : Type 0 where
  pub count : length new ≡ length old
  pub first : number new 0 ≡ sign (number old column) *ℤ number old column
  pub at : number new column ≡ sign (number old column) *ℤ number old 0
  pub others : (k : ℕ) → k ≢ 0 → k ≢ column → number new k ≡ neg_ℤ (sign (number old column) *ℤ number old k)

-- a row with the pivot row put in place of a column's variable, in lowest form. The pivot row has 0 in place of its denominator
pub record IsCombination (old : List ℤ) (column : ℕ) (pivot : List ℤ) (denominator : ℤ) (new : List ℤ) : Type 0 where
  pub count : length new ≡ length old
  pub k : ℕ
  pub factor : 0 < k
  pub same : (j : ℕ) → number (slice_set old column (pos 0)) j *ℤ denominator +ℤ number old column *ℤ number pivot j ≡ pos k *ℤ number new j
  pub lowest : (m : ℕ) → ((j : ℕ) → m ∣ unsigned_abs (number new j)) → m ≡ 1

-- the coefficient of a variable that stands at this place
abbrev pub number_at : List ℤ → Place → ℤ
number_at row (Row r) = pos 0
number_at row (Column p) = slice_index_or row p (pos 0)

-- the line that a row stands for
abbrev pub line_in : List Place → List ℤ → Line
line_in places row = record { d = slice_index_or row 0 (pos 0); c = slice_index_or row 1 (pos 0); coefficients = map (number_at row) places }

-- each column's index is below the length of the rows
pub record PlacesWithin (stride : ℕ) (places : List Place) : Type 0 where
  pub each : (v p : ℕ) → slice_get places v ≡ Some (Column p) → p < stride

-- the row divided by a positive number, so that only 1 divides all its numbers
pub record IsLowered (old new : List ℤ) : Type 0 where
  pub count : length new ≡ length old
  pub k : ℕ
  pub factor : 0 < k
  pub same : (j : ℕ) → number old j ≡ pos k *ℤ number new j
  pub lowest : (m : ℕ) → ((j : ℕ) → m ∣ unsigned_abs (number new j)) → m ≡ 1
