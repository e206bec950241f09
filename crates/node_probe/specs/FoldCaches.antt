-- The folds of a geometry's items, kept by two-faces and numbers.
use Rattle.std.specs.Prelude.{◌≡◌, ℕ, List, ◌++◌, length, map, replicate, slice_get, Option, Some, All}
use Rattle.ntfe_model.specs.Shapes.{Shape}
use Rattle.ntfe_model.specs.Charts.{Patch, patch_of}
use Rattle.ntfe_model.specs.Words.{IsItem}
use Rattle.ntfe_model.specs.Choices.{AreFolds, IsSmallFold}
use Rattle.ntfe_model.specs.declared.triangulation.Triangulation.{Triangulation}
use Rattle.ntfe_model.specs.declared.nogood.Fold.{Fold}
use Rattle.node_probe.specs.declared.head.HeadRows.{HeadRows}
use Rattle.node_probe.specs.declared.fold_cache.KeptFolds.{KeptFolds}

-- the patches of the geometry's two-faces, in their order
abbrev pub patches : Shape → List Patch
patches g = map (patch_of g.points) g.faces

-- the folds of the patch's item with this number
pub record IsShelved (h : Patch) (n : ℕ) (rs : List Fold) : Type 0 where
  pub item : Triangulation
  pub is_item : IsItem h n item
  pub folds : AreFolds h item rs
  pub small : All IsSmallFold rs

-- what stands at a place are the folds of the item whose number stands beside them
abbrev pub AreShelved : Patch → List (Option KeptFolds) → Type 0
AreShelved h kept = (place : ℕ) (e : KeptFolds) → slice_get kept place ≡ Some (Some e) → IsShelved h e.number e.folds

-- no other folds stand there than before
abbrev pub HasNoOthers : List (Option KeptFolds) → List (Option KeptFolds) → Type 0
HasNoOthers old new = (place : ℕ) (e : KeptFolds) → slice_get new place ≡ Some (Some e) → slice_get old place ≡ Some (Some e)

-- the folds of the item with this number stand at the place
abbrev pub HasFolds : List (Option KeptFolds) → ℕ → ℕ → Type 0
HasFolds kept place n = (e : KeptFolds) × (slice_get kept place ≡ Some (Some e)) × (e.number ≡ n)

-- the folds of the patch's item were added, with the number of its two-face
pub record AddsItem (h : Patch) (n face : ℕ) (old new : HeadRows) : Type 0 where
  pub added : List Fold
  pub cached : IsShelved h n added
  pub folds : new.folds.items ≡ old.folds.items ++ added
  pub faces : new.faces.items ≡ old.faces.items ++ replicate (length added) face
