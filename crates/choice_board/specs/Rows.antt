-- Rows of things that stand by lists of numbers, from the greatest down.
use Rattle.std.specs.Prelude.{◌≡◌, ℕ, ◌<◌, ◌≤◌, List, length, slice_index_or, AllPairs}
use Rattle.ntfe_model.specs.Lists.{IsBelow}

-- each is above those after it
abbrev pub IsFalling : {X : Type 0} → (X → List ℕ) → List X → Type 0
IsFalling key row = AllPairs (λ x y. IsBelow (key y) (key x)) row

-- what stands at the place has these numbers
abbrev pub IsFoundAt : {X : Type 0} → (X → List ℕ) → List X → List ℕ → ℕ → Type 0
IsFoundAt {X} key row numbers i = (i < length row) × ((d : X) → key (slice_index_or row i d) ≡ numbers)

-- what stands before the first place is above the numbers, and what stands from the second on is below them
pub record IsBetween {X : Type 0} (key : X → List ℕ) (row : List X) (numbers : List ℕ) (low high : ℕ) : Type 0 where
  pub rising : low ≤ high
  pub within : high ≤ length row
  pub higher : (k : ℕ) (d : X) → k < low → IsBelow numbers (key (slice_index_or row k d))
  pub lower : (k : ℕ) (d : X) → high ≤ k → k < length row → IsBelow (key (slice_index_or row k d)) numbers

-- the numbers are not in the row, and belong at this place
abbrev pub IsPlaceFor : {X : Type 0} → (X → List ℕ) → List X → List ℕ → ℕ → Type 0
IsPlaceFor key row numbers i = IsBetween key row numbers i i
