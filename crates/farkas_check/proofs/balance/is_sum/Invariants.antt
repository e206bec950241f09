use Rattle.std.proofs.Common.{◌≡◌, ◌<◌, ℕ, get_or, pos, ◌+ℤ◌, ◌*ℤ◌}
use Rattle.farkas_check.proofs.balance.is_sum.Given as goal

abbrev pub invariant-loop-i : goal.invariant-loop-i
invariant-loop-i l = (k : ℕ) → k < l.i → get_or l.c k (pos 0) +ℤ get_or l.d k (pos 0) ≡ l.fn.alpha *ℤ get_or l.a k (pos 0) +ℤ l.fn.beta *ℤ get_or l.b k (pos 0)
