use Rattle.std.proofs.Common.{List}
use Rattle.std.specs.Prelude.{All}
use Rattle.ntfe_nums.specs.Vectors.{Vector}
use Rattle.lattice_points.specs.Inequalities.{IsGiven, IsSum}
use Rattle.lattice_points.proofs.inequality.eliminate.Given as goal

abbrev pub invariant-loop-m : goal.invariant-loop-m
invariant-loop-m l = (ms : List Vector) → All (IsGiven ms) l.given → All (IsSum ms l.fn.cancelled) l.sums.items
