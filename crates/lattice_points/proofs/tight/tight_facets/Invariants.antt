use Rattle.std.proofs.Common.{◌≡◌, filter}
use Rattle.std.specs.List.{range_with_len}
use Rattle.ntfe_model.specs.Pairs.{entry}
use Rattle.ntfe_model.specs.Points.{is_tight}
use Rattle.lattice_points.proofs.tight.tight_facets.Given as goal

abbrev pub invariant-loop-i : goal.invariant-loop-i
invariant-loop-i l = l.facets.items ≡ filter (λ k. is_tight (entry l.dual k) l.x) (range_with_len 1 l.i)
