-- Which entries of a list are tight on a vector, as the bits of a number.
use Rattle.std.specs.Prelude.{ℕ, ◌<◌, List, length, slice_index}
use Rattle.ntfe_nums.specs.Vectors.{Vector}
use Rattle.ntfe_model.specs.Reflexive.{at}
use Rattle.ntfe_model.specs.TightBits.{AreTightBits}

-- the number at each place of vs has the bits of the entries of ms that are tight on it
abbrev pub IsTable : List Vector → List Vector → List ℕ → Type 0
IsTable vs ms table = (i : ℕ) → i < length vs → AreTightBits (at vs i) ms (length ms) (slice_index table i)
