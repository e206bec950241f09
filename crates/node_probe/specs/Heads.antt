-- The head of a key: its items, and their folds with the two-faces that they are of.
use Rattle.std.specs.Prelude.{◌≡◌, ℕ, ◌<◌, ◌≤◌, List, length, slice_index, slice_index_or, All, AllPairs, Option}
use Rattle.ntfe_model.specs.Books.{KeepsItem}
use Rattle.ntfe_model.specs.Shapes.{Shape}
use Rattle.ntfe_model.specs.Charts.{patch_at}
use Rattle.ntfe_model.specs.Words.{IsItem}
use Rattle.ntfe_model.specs.Choices.{IsFoldOf, AreFolds, IsSmallFold}
use Rattle.ntfe_model.specs.Keys.{AreHeadFolds}
use Rattle.ntfe_model.specs.declared.triangulation.Triangulation.{Triangulation}
use Rattle.ntfe_model.specs.declared.nogood.Fold.{Fold}

-- all items of the head are kept
abbrev pub KeepsHead : (ℕ → ℕ → Option Triangulation) → List ℕ → Type 0
KeepsHead keeps head = (f : ℕ) → f < length head → KeepsItem keeps f (slice_index head f)

-- the folds of the two-face's item with this number
abbrev pub AreItemFolds : Shape → ℕ → ℕ → List Fold → Type 0
AreItemFolds g f n rs = (x : Triangulation) × IsItem (patch_at g f) n x × AreFolds (patch_at g f) x rs

-- a fold of the head's item on the two-face f
abbrev pub IsRowOf : Shape → List ℕ → ℕ → Fold → Type 0
IsRowOf g head f r = (f < length head) × ((x : Triangulation) × IsItem (patch_at g f) (slice_index head f) x × IsFoldOf (patch_at g f) x r)

-- the folds of a head, with the two-face of each
pub record AreHeadRows (g : Shape) (head : List ℕ) (rs : List Fold) (faces : List ℕ) : Type 0 where
  pub folds : AreHeadFolds g 0 head rs
  pub small : All IsSmallFold rs
  pub count : length faces ≡ length rs
  pub owners : (j : ℕ) (d : Fold) → j < length rs → IsRowOf g head (slice_index faces j) (slice_index_or rs j d)
  pub rising : AllPairs (λ e f. e ≤ f) faces
