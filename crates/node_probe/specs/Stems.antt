-- The stems of a key.
use Rattle.std.specs.Prelude.{◌≡◌, ℕ, ◌<◌, ◌≤◌, List, length, slice_get, All, Option, Some}
use Rattle.ntfe_model.specs.declared.nogood.Fold.{Fold}
use Rattle.strict_solver.specs.Stems.{StemValue}
use Rattle.strict_solver.specs.declared.stem.Pushed.{Pushed}
use Rattle.strict_solver.specs.declared.stem.Pushed.TheVariants.{Feasible, Infeasible, Unknown}
use Rattle.strict_solver.specs.Pushes.{HasExtended}

-- what contracts see of stems: the number of heights, and the stem of the last key
pub record StemsValue : Type 0 where
  pub columns : ℕ
  pub last : Option StemValue

-- the stems are over so many heights, and the last one stands at this place
pub record AreStems (columns last : ℕ) (stems : List StemValue) : Type 0 where
  pub few : columns ≤ 400
  pub within : last < length stems
  pub columns_are : All (λ v. v.columns ≡ columns) stems

-- the stem at this place has gone on to so many of the folds
pub record HasGone (stems : List StemValue) (level : ℕ) (fs : List Fold) (n : ℕ) (p : Pushed) : Type 0 where
  pub stem : StemValue
  pub is : slice_get stems level ≡ Some stem
  pub extended : HasExtended stem fs n p

-- the last stem has gone on to so many of the folds
pub record IsLastAfter (s : StemsValue) (fs : List Fold) (n : ℕ) (p : Pushed) : Type 0 where
  pub stem : StemValue
  pub is : s.last ≡ Some stem
  pub extended : HasExtended stem fs n p
  pub columns : stem.columns ≡ s.columns

-- the last stem stands for the folds, or has multipliers with which they cancel, or nothing is known
abbrev pub HasFollowed : StemsValue → List Fold → Pushed → Type 0
HasFollowed s fs Feasible = IsLastAfter s fs (length fs) Feasible
HasFollowed s fs Infeasible = IsLastAfter s fs (length fs) Infeasible
HasFollowed s fs Unknown = Unit {0}
