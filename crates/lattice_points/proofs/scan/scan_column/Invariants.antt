use Rattle.lattice_points.specs.Scans.{IsInColumn}
use Rattle.lattice_points.proofs.ScanLemmas.{Sweeps}
use Rattle.lattice_points.proofs.scan.scan_column.Given as goal

abbrev pub invariant-loop-x4 : goal.invariant-loop-x4
invariant-loop-x4 l = Sweeps l.pair (IsInColumn l.fn.x1 l.fn.x2 l.fn.x3) (λ v. v.x4) l.fn.inside 1 l.x4 l.initial.found l.found
