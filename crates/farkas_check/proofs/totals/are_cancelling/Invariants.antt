use Rattle.std.proofs.Common.{◌≡◌, ◌≤◌, ℕ, pos}
use Rattle.ntfe_model.specs.Certificates.{total_coefficient}
use Rattle.farkas_check.proofs.totals.are_cancelling.Given as goal

abbrev pub invariant-loop-k : goal.invariant-loop-k
invariant-loop-k l = (j : ℕ) → 1 ≤ j → j ≤ l.k → total_coefficient l.terms j ≡ pos 0
