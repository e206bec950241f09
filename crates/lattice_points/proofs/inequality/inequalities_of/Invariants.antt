use Rattle.std.specs.Prelude.{All}
use Rattle.lattice_points.specs.Inequalities.{IsGiven}
use Rattle.lattice_points.proofs.inequality.inequalities_of.Given as goal

abbrev pub invariant-loop-m : goal.invariant-loop-m
invariant-loop-m l = All (IsGiven l.dual) l.given.items
