-- Folds that are positive at heights.
use Rattle.std.specs.Prelude.{◌≡◌, ℕ, ℤ, pos, ◌<ℤ◌, List, length, All}
use Rattle.ntfe_model.specs.Choices.{fold_value}
use Rattle.ntfe_model.specs.declared.nogood.Fold.{Fold}

-- each fold is positive at the heights
abbrev pub LiftsAll : List ℤ → List Fold → Type 0
LiftsAll w rs = All (λ r. pos 0 <ℤ fold_value w r) rs

-- at some heights, one for each of so many points, each fold is positive
abbrev pub AreLifted : ℕ → List Fold → Type 0
AreLifted points rs = (w : List ℤ) × (length w ≡ points) × LiftsAll w rs
