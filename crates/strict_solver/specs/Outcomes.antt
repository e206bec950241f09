-- The answer of one solve.
use Rattle.std.specs.Prelude.{ℕ, ℤ, List, Some}
use Rattle.ntfe_model.specs.Solver.{IsFeasible, IsInfeasible, IsWide}
use Rattle.strict_solver.specs.declared.run.Solved.{Solved}
use Rattle.strict_solver.specs.declared.run.Solved.TheVariants.{Feasible, Infeasible, Wide}

-- the answer is that of the stated solver, with these heights or multipliers
abbrev pub IsOutcome : ℕ → List (List ℤ) → ℕ → Solved → List ℤ → List (ℕ × ℤ) → Type 0
IsOutcome columns rs width Feasible hs ms = IsFeasible columns rs (Some width) hs
IsOutcome columns rs width Infeasible hs ms = IsInfeasible columns rs (Some width) ms
IsOutcome columns rs width (Wide step number) hs ms = IsWide columns rs width step number
