use Rattle.std.proofs.Common.{◌≡◌, ℕ, ◌<◌, ◌^◌, take, unsigned_abs}
use Rattle.strict_solver.specs.Rows.{number}
use Rattle.strict_solver.proofs.row.store.Given as goal

abbrev pub invariant-loop-k : goal.invariant-loop-k
invariant-loop-k l =
    (take l.k l.row ≡ take l.k l.numbers)
    × ((j : ℕ) → j < l.k → unsigned_abs (number l.numbers j) < 2 ^ l.width)
