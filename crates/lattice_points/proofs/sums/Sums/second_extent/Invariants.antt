use Rattle.lattice_points.specs.Scans.{IsOnPlane}
use Rattle.lattice_points.proofs.InequalityLemmas.{IsNarrowed}
use Rattle.lattice_points.proofs.sums.Sums.second_extent.Given as goal

abbrev pub invariant-loop-sum : goal.invariant-loop-sum
invariant-loop-sum l = IsNarrowed l.self (IsOnPlane l.fn.x1) (λ v. v.x2) l.fn.extent l.left
