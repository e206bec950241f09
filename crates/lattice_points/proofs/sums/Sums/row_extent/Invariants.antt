use Rattle.lattice_points.specs.Scans.{IsOnRow}
use Rattle.lattice_points.proofs.InequalityLemmas.{IsNarrowed}
use Rattle.lattice_points.proofs.sums.Sums.row_extent.Given as goal

abbrev pub invariant-loop-sum : goal.invariant-loop-sum
invariant-loop-sum l = IsNarrowed l.self (IsOnRow l.fn.x1 l.fn.x3) (λ v. v.x2) l.fn.extent l.left
