-- Runs of the stated solver, as far as they have come.
use Rattle.std.specs.Prelude.{◌≡◌, ℕ, ◌-◌, ◌<◌, ◌≤◌, ℤ, pos, List, length, slice_index_or, flat_map, Option, Some, None}
use Rattle.std.specs.List.{range_with_len}
use Rattle.ntfe_model.specs.Solver.{Line, Move, coefficient_at, next_load, move_of, line_or_nothing, first_wide, Reaches, shown_step}
use Rattle.ntfe_model.specs.Solver.Move.{feasible, infeasible}

-- after so many pivots the run stands at this table, with these heights still to be loaded, and no table was wide
pub record Stands (columns width : ℕ) (rs : List (List ℤ)) (to_load : List ℕ) (steps : ℕ) (lines : List (Option Line)) : Type 0 where
  pub reaches : Reaches columns rs (Some width) steps (record { lines = lines; to_load = to_load })
  pub narrow : first_wide width (flat_map line_or_nothing lines) ≡ None

-- the heights from this one on are still to be loaded
pub record IsLoadingFrom (columns width : ℕ) (rs : List (List ℤ)) (step height : ℕ) (lines : List (Option Line)) : Type 0 where
  pub to_load : List ℕ
  pub steps : ℕ
  pub stands : Stands columns width rs to_load steps lines
  pub shown : step ≡ shown_step steps
  pub next : next_load columns lines to_load ≡ next_load columns lines (range_with_len height (columns - height))

-- no height is to be loaded
pub record IsLoadedAt (columns width : ℕ) (rs : List (List ℤ)) (step : ℕ) (lines : List (Option Line)) : Type 0 where
  pub to_load : List ℕ
  pub steps : ℕ
  pub stands : Stands columns width rs to_load steps lines
  pub shown : step ≡ shown_step steps
  pub done : next_load columns lines to_load ≡ None

-- the last move: none where no slack is negative, else the slack that can't be mended
abbrev pub ending : Option ℕ → Move
ending None = feasible
ending (Some x) = infeasible x

-- the run has come to its end
pub record IsSettled (columns width : ℕ) (rs : List (List ℤ)) (step : ℕ) (slack : Option ℕ) (lines : List (Option Line)) : Type 0 where
  pub to_load : List ℕ
  pub steps : ℕ
  pub stands : Stands columns width rs to_load steps lines
  pub shown : step ≡ shown_step steps
  pub move : move_of columns (record { lines = lines; to_load = to_load }) ≡ ending slack

-- no slack has a height that is not basic
abbrev pub HasLoaded : ℕ → List (Option Line) → Type 0
HasLoaded columns s =
    (k : ℕ) → k < columns → slice_index_or s k None ≡ None → (z : ℕ) (r : Line) → columns ≤ z → z < length s → slice_index_or s z None ≡ Some r → coefficient_at r k ≡ pos 0
