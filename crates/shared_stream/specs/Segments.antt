-- The items of a two-face, in segments of 256.
use Rattle.std.specs.Prelude.{◌≡◌, ℕ, ◌+◌, ◌*◌, ◌/◌, ◌%◌, ◌==◌, ◌<◌, ◌≤◌, ◌⊎◌, cond, Bool, List, length, slice_get, Option, None, Some, MatchBool}
use Rattle.ntfe_model.specs.Charts.{Patch}
use Rattle.ntfe_model.specs.Words.{IsItem, HasItemAt}
use Rattle.ntfe_model.specs.declared.triangulation.Triangulation.{Triangulation}

-- what a contract sees of a segment
pub record Stretch : Type 0 where
  pub patch : Patch
  pub number : ℕ
  pub items : List Triangulation
  pub ended : Bool

-- the two-face has a segment of this number: the first one, or one that begins with an item
abbrev pub HasSegment : Patch → ℕ → Type 0
HasSegment h number = (number ≡ 0) ⊎ HasItemAt h (256 * number)

-- the items of the face with the numbers from `first` on, up to 256 of them, as many as there are
pub record AreItemsFrom (h : Patch) (first : ℕ) (xs : List Triangulation) : Type 0 where
  pub items : (k : ℕ) (x : Triangulation) → slice_get xs k ≡ Some x → IsItem h (first + k) x
  pub few : length xs ≤ 256
  pub all : (k : ℕ) → k < 256 → HasItemAt h (first + k) → k < length xs

-- the segment has its items, and tells whether there is an item behind them
pub record IsSegment (s : Stretch) : Type 0 where
  pub segment : HasSegment s.patch s.number
  pub items : AreItemsFrom s.patch (256 * s.number) s.items
  pub ended : MatchBool s.ended (¬ (HasItemAt s.patch (256 * s.number + 256))) (HasItemAt s.patch (256 * s.number + 256))

-- it is a segment of this two-face, and has this number
abbrev pub IsSegmentOf : Patch → ℕ → Stretch → Type 0
IsSegmentOf h number s = (s.number ≡ number) × (s.patch ≡ h)

-- an item of this number would stand in the segment
abbrev pub IsNumberOf : Stretch → ℕ → Type 0
IsNumberOf s number = number / 256 ≡ s.number

-- the item of this number, where it stands in the segment
abbrev pub item_in : Stretch → ℕ → Option Triangulation
item_in s number = cond ((number / 256) == s.number) (slice_get s.items (number % 256)) None
