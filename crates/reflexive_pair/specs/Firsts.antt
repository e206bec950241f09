-- The first places of a list with a property, counted from 0.
use Rattle.std.specs.Prelude.{◌≡◌, ◌≢◌, ℕ, ◌<◌, negsuc, ◌≤ℤ◌, ◌<ℤ◌, List, length}
use Rattle.ntfe_nums.specs.Vectors.{Vector, dot}
use Rattle.ntfe_model.specs.Reflexive.{at}

-- the entry at place i is none of those after it and before n
abbrev pub DiffersBelow : List Vector → ℕ → ℕ → Type 0
DiffersBelow vs i n = (j : ℕ) → i < j → j < n → at vs i ≢ at vs j

-- j is the first place after i with the same entry
pub record IsFirstRepeatOf (vs : List Vector) (i j : ℕ) : Type 0 where
  pub after : i < j
  pub within : j < length vs
  pub same : at vs i ≡ at vs j
  pub first : DiffersBelow vs i j

-- v has no scalar product below -1 with an entry before place n
abbrev pub IsHighBelow : Vector → List Vector → ℕ → Type 0
IsHighBelow v ms n = (j : ℕ) → j < n → negsuc 0 ≤ℤ dot (at ms j) v

-- j is the first place whose entry has a scalar product below -1 with v
pub record IsFirstLow (v : Vector) (ms : List Vector) (j : ℕ) : Type 0 where
  pub within : j < length ms
  pub low : dot (at ms j) v <ℤ negsuc 0
  pub first : IsHighBelow v ms j
