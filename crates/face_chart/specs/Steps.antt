-- What a boundary step asks of each point, and how the list of the boundary steps is made.
use Rattle.std.specs.Prelude.{◌≡◌, ◌≢◌, ℕ, ◌^◌, ◌≤◌, negsuc, unsigned_abs, List, ◌++◌}
use Rattle.ntfe_model.specs.Lists.{IsListing, IsBefore2}
use Rattle.ntfe_model.specs.Charts.{Patch, place, turn, IsOnSegment, IsStep}
use Rattle.face_chart.specs.declared.segment.Share.{Share}

pub record IsSmallShare (m : Share) : Type 0 where
  pub whole : unsigned_abs m.n ≤ 2 ^ 24
  pub part : unsigned_abs m.s ≤ 2 ^ 24

-- the point p neither lies to the right of the step from a to b, nor between its ends
pub record IsClear (h : Patch) (a b p : ℕ) : Type 0 where
  pub outer : turn h a b p ≢ negsuc 0
  pub next : p ≢ a → p ≢ b → ¬ (IsOnSegment (place h a) (place h b) (place h p))

-- a boundary step whose numbers have S
pub record IsStepWith (h : Patch) (S : ℕ → ℕ → Type 0) (e : ℕ × ℕ) : Type 0 where
  pub step : IsStep h e.0 e.1
  pub numbers : S e.0 e.1

-- all of them were added, in order
pub record AddsSteps (h : Patch) (S : ℕ → ℕ → Type 0) (old new : List (ℕ × ℕ)) : Type 0 where
  pub added : List (ℕ × ℕ)
  pub listing : IsListing (λ e f. IsBefore2 e.0 e.1 f.0 f.1) (IsStepWith h S) added
  pub items : new ≡ old ++ added
