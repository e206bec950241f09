use Rattle.std.proofs.Common.{List}
use Rattle.std.specs.Prelude.{All}
use Rattle.ntfe_nums.specs.Vectors.{Vector}
use Rattle.lattice_points.specs.Inequalities.{IsGiven, IsSum}
use Rattle.lattice_points.proofs.inequality.add_sums.Given as goal

abbrev pub invariant-loop-n : goal.invariant-loop-n
invariant-loop-n l = (ms : List Vector) → All (IsGiven ms) l.given → IsGiven ms l.m → All (IsSum ms l.fn.cancelled) l.initial.sums.items → All (IsSum ms l.fn.cancelled) l.sums.items
