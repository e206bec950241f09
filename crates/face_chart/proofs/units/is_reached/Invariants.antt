use Rattle.std.proofs.Common.{◌≡◌, ℕ, ◌<◌, get_or, pos}
use Rattle.face_chart.specs.Units.{reached_at}
use Rattle.face_chart.proofs.units.is_reached.Given as goal

abbrev pub invariant-loop-i : goal.invariant-loop-i
invariant-loop-i l = (k : ℕ) → k < l.i → get_or l.p k (pos 0) ≡ reached_at l.a l.b l.c l.m k
