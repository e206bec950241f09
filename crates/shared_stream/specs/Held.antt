-- The segments that a worker holds.
use Rattle.std.specs.Prelude.{◌≡◌, ℕ, ◌<◌, ◌/◌, false, List, [], ◌∷◌, ◌++◌, length, map, slice_index_or, Option, Some}
use Rattle.ntfe_model.specs.Charts.{Patch, patch_of}
use Rattle.ntfe_model.specs.Shapes.{Shape}
use Rattle.ntfe_model.specs.declared.triangulation.Triangulation.{Triangulation}
use Rattle.shared_stream.specs.Segments.{Stretch, IsSegmentOf, item_in}
use Rattle.shared_stream.specs.declared.held.Held.{Held}
use Rattle.shared_stream.specs.declared.held.Held.TheVariants.{Lent, Own}

abbrev pub stretch_of : Held → Stretch
stretch_of (Lent s) = s.now
stretch_of (Own s) = s

-- what a contract sees of the segments held of a two-face
pub record FirstStretches : Type 0 where
  pub patch : Patch
  pub stretches : List Stretch

-- stands for a segment whose number is out of range
abbrev pub no_stretch : Stretch
no_stretch = record { patch = []; number = 0; items = []; ended = false }

-- these are the first segments of the two-face
pub record AreFirst (h : Patch) (ss : List Stretch) : Type 0 where
  pub each : (k : ℕ) → k < length ss → IsSegmentOf h k (slice_index_or ss k no_stretch)

-- the item of this number in the segments that are held
abbrev pub held_item : FirstStretches → ℕ → Option Triangulation
held_item r number = item_in (slice_index_or r.stretches (number / 256) no_stretch) number

-- there is an item of this number in the segments that are held
abbrev pub IsHeldItem : FirstStretches → ℕ → Type 0
IsHeldItem r number = (x : Triangulation) × (held_item r number ≡ Some x)

-- the list goes on behind its old segments
pub record GoesOn (old new : List Stretch) : Type 0 where
  pub more : List Stretch
  pub is : new ≡ old ++ more

-- the list has one segment more
pub record HasOneMore (old new : List Stretch) : Type 0 where
  pub stretch : Stretch
  pub is : new ≡ old ++ stretch ∷ []

-- what a contract sees of a book: a geometry, and for each two-face the segments that are held
pub record LentItems : Type 0 where
  pub shape : Shape
  pub rows : List FirstStretches

-- stands for a two-face whose number is out of range
abbrev pub no_stretches : FirstStretches
no_stretches = record { patch = []; stretches = [] }

-- the item that is kept for a two-face and a number
abbrev pub lent_item : LentItems → ℕ → ℕ → Option Triangulation
lent_item b face number = held_item (slice_index_or b.rows face no_stretches) number

-- each two-face has its row, in order
abbrev pub HasRows : Shape → List FirstStretches → Type 0
HasRows g rows = map (λ r. r.patch) rows ≡ map (patch_of g.points) g.faces
