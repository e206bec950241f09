use Rattle.std.proofs.Common.{◌≡◌, ℕ, ◌<◌, get_or, pos, ◌*ℤ◌}
use Rattle.face_chart.proofs.segment.is_on_segment.Given as goal

abbrev pub invariant-loop-i : goal.invariant-loop-i
invariant-loop-i l = (k : ℕ) → k < l.i → l.share.n *ℤ get_or l.e k (pos 0) ≡ l.share.s *ℤ get_or l.d k (pos 0)
