use Rattle.std.proofs.Common.{◌≡◌, ℕ, ◌<◌, length, pos, get_or}
use Rattle.ntfe_nums.specs.Vectors.{origin}
use Rattle.lattice_points.specs.Lines.{head_sum}
use Rattle.lattice_points.proofs.column.Line.new.Given as goal

abbrev pub invariant-loop-i : goal.invariant-loop-i
invariant-loop-i l = record {
  len : length l.sums ≡ 64;
  sums : (k : ℕ) → k < l.i → get_or l.sums k (pos 0) ≡ head_sum (get_or l.dual k origin) l.fn.x1 l.fn.x2;
}
