-- What contracts see of a solver, and what its answers say.
use Rattle.std.specs.Prelude.{◌≡◌, ℕ, ◌<◌, ℤ, pos, ◌<ℤ◌, ◌≤ℤ◌, ◌+ℤ◌, ◌*ℤ◌, List, [], ◌∷◌, map, length, All, AllPairs, slice_index_or, Some}
use Rattle.ntfe_model.specs.Choices.{fold_value}
use Rattle.ntfe_model.specs.Solver.{fold_row, IsFeasible, IsInfeasible, IsWide}
use Rattle.ntfe_model.specs.declared.nogood.Fold.{Fold}
use Rattle.strict_solver.specs.declared.tableau.Last.{Last}
use Rattle.strict_solver.specs.declared.tableau.Last.TheVariants.{Nothing, Heights, Multipliers}
use Rattle.strict_solver.specs.declared.run.Solved.{Solved}
use Rattle.strict_solver.specs.declared.run.Solved.TheVariants.{Feasible, Infeasible, Wide}
use Rattle.strict_solver.specs.Answers.{Answer}
use Rattle.strict_solver.specs.Answers.Answer.{unsolved, feasible, infeasible}

-- what the solver keeps of its last answer
abbrev pub answer_of : Last → List ℤ → List (ℕ × ℤ) → Answer
answer_of Nothing hs ms = unsolved
answer_of Heights hs ms = feasible hs
answer_of Multipliers hs ms = infeasible ms

-- the answer is that of the stated solver
abbrev pub HasSolved : ℕ → List (List ℤ) → ℕ → Solved → Answer → Type 0
HasSolved columns rs width Feasible (feasible hs) = IsFeasible columns rs (Some width) hs
HasSolved columns rs width Feasible unsolved = ⊥
HasSolved columns rs width Feasible (infeasible ms) = ⊥
HasSolved columns rs width Infeasible (infeasible ms) = IsInfeasible columns rs (Some width) ms
HasSolved columns rs width Infeasible unsolved = ⊥
HasSolved columns rs width Infeasible (feasible hs) = ⊥
HasSolved columns rs width (Wide step number) a = IsWide columns rs width step number × (a ≡ unsolved)

-- the sum of the multipliers times what f says of their rows
abbrev pub weighted_sum : List (ℕ × ℤ) → (ℕ → ℤ) → ℤ
weighted_sum [] f = pos 0
weighted_sum (e ∷ es) f = e.1 *ℤ f e.0 +ℤ weighted_sum es f

-- the multipliers are positive, there is one, their row numbers rise, and the rows times them cancel
pub record AreMultipliers (columns : ℕ) (rs : List (List ℤ)) (ms : List (ℕ × ℤ)) : Type 0 where
  pub positive : All (λ (e : ℕ × ℤ). (e.0 < length rs) × (pos 0 <ℤ e.1)) ms
  pub some : 0 < length ms
  pub rising : AllPairs (λ (e : ℕ × ℤ) (f : ℕ × ℤ). e.0 < f.0) ms
  pub cancel : (k : ℕ) → k < columns → weighted_sum ms (λ j. slice_index_or (slice_index_or rs j []) k (pos 0)) ≡ pos 0

-- what an answer means: heights at which each fold is at least 1, or multipliers at which the folds cancel
abbrev pub HasMeaning : ℕ → List Fold → Solved → Answer → Type 0
HasMeaning columns fs Feasible (feasible hs) = (length hs ≡ columns) × All (λ f. pos 1 ≤ℤ fold_value hs f) fs
HasMeaning columns fs Feasible unsolved = ⊥
HasMeaning columns fs Feasible (infeasible ms) = ⊥
HasMeaning columns fs Infeasible (infeasible ms) = AreMultipliers columns (map (fold_row columns) fs) ms
HasMeaning columns fs Infeasible unsolved = ⊥
HasMeaning columns fs Infeasible (feasible hs) = ⊥
HasMeaning columns fs (Wide step number) a = Unit {0}
