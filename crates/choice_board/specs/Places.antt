-- Places on the board: sets of lists of numbers, one for each two-face.
use Rattle.std.specs.Prelude.{◌≡◌, ℕ, ◌+◌, ◌-◌, ◌≤◌, List, [], ◌∷◌, ◌++◌, length, take, slice_index}
use Rattle.ntfe_model.specs.Keys.{stem, last_number, BeginsWith}

-- the cone of a key, or all that begins with a head
pub data Place : Type 0 where
  cone : List ℕ → Place
  under : List ℕ → Place

-- the list has so many numbers and lies in the place
abbrev pub IsIn : ℕ → Place → List ℕ → Type 0
IsIn count (cone key) numbers =
    (length numbers ≡ count) × (take (length key - 1) numbers ≡ stem key) × (last_number key ≤ slice_index numbers (length key - 1))
IsIn count (under head) numbers = (length numbers ≡ count) × BeginsWith head numbers

-- the key with its last number raised by 1
abbrev pub raised : List ℕ → List ℕ
raised key = stem key ++ (last_number key + 1) ∷ []

-- the key followed by 0
abbrev pub first_under : List ℕ → List ℕ
first_under key = key ++ 0 ∷ []
