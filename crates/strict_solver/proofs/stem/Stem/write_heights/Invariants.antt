use Rattle.std.proofs.Common.{◌≡◌, ℕ, ◌+◌, ◌<◌, length, pos, get_or}
use Rattle.strict_solver.specs.Rows.{number}
use Rattle.strict_solver.proofs.stem.Stem.write_heights.Given as goal

abbrev pub invariant-loop-k : goal.invariant-loop-k
invariant-loop-k l = (length l.heights ≡ length l.fn.heights) × ((j : ℕ) → j < l.k → get_or l.heights j (pos 0) ≡ number l.self-inside.basis.line.items (j + 1))
