use Rattle.lattice_points.specs.Scans.{IsOnLine}
use Rattle.lattice_points.proofs.InequalityLemmas.{IsNarrowed}
use Rattle.lattice_points.proofs.sums.Sums.third_extent.Given as goal

abbrev pub invariant-loop-sum : goal.invariant-loop-sum
invariant-loop-sum l = IsNarrowed l.self (IsOnLine l.fn.x1 l.fn.x2) (λ v. v.x3) l.fn.extent l.left
