use Rattle.std.proofs.Common.{ℕ, ◌<◌, unsigned_abs}
use Rattle.std.specs.Int.{◌∣◌}
use Rattle.strict_solver.specs.Rows.{number}
use Rattle.strict_solver.proofs.short.common_divisor.Given as goal

abbrev pub invariant-loop-number : goal.invariant-loop-number
invariant-loop-number l =
    ((k : ℕ) → k < l.number-index → l.common ∣ unsigned_abs (number l.numbers k))
    × ((m : ℕ) → ((k : ℕ) → m ∣ unsigned_abs (number l.numbers k)) → m ∣ l.common)
