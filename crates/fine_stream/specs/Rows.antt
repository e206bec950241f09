-- The items of faces that are kept.
use Rattle.std.specs.Prelude.{◌≡◌, ℕ, ◌<◌, List, [], ◌∷◌, ◌++◌, length, slice_get, slice_index_or, Option, Some}
use Rattle.ntfe_model.specs.Charts.{Patch, patch_at}
use Rattle.ntfe_model.specs.Shapes.{Shape}
use Rattle.ntfe_model.specs.Words.{IsItem}
use Rattle.ntfe_model.specs.declared.triangulation.Triangulation.{Triangulation}
use Rattle.fine_stream.specs.Cursors.{Cursor, StandsBefore}

-- what a contract sees of a row: a face with its first items
pub record FirstItems : Type 0 where
  pub patch : Patch
  pub items : List Triangulation

-- these are the first items of the face, and the stream stands behind them
pub record IsRow (c : Cursor) (xs : List Triangulation) : Type 0 where
  pub items : (k : ℕ) (x : Triangulation) → slice_get xs k ≡ Some x → IsItem c.patch k x
  pub stands : StandsBefore c (length xs)

-- the list goes on behind its old items
pub record GoesOn (old new : List Triangulation) : Type 0 where
  pub more : List Triangulation
  pub is : new ≡ old ++ more

-- the list has one item more
pub record HasOneMore (old new : List Triangulation) : Type 0 where
  pub item : Triangulation
  pub is : new ≡ old ++ item ∷ []

-- what a contract sees of a book: a geometry, and for each two-face its first items
pub record KeptItems : Type 0 where
  pub shape : Shape
  pub rows : List FirstItems

-- stands for a two-face whose number is out of range
abbrev pub no_items : FirstItems
no_items = record { patch = []; items = [] }

-- the item that is kept for a two-face and a number
abbrev pub kept_item : KeptItems → ℕ → ℕ → Option Triangulation
kept_item b face number = slice_get (slice_index_or b.rows face no_items).items number

-- each two-face has its row
pub record HasRows (g : Shape) (rows : List FirstItems) : Type 0 where
  pub count : length rows ≡ length g.faces
  pub patches : (f : ℕ) → f < length rows → (slice_index_or rows f no_items).patch ≡ patch_at g f
