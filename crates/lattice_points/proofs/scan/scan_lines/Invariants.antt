use Rattle.std.proofs.Common.{◌^◌}
use Rattle.lattice_points.specs.Scans.{IsOnPlane}
use Rattle.lattice_points.proofs.ScanLemmas.{Sweeps}
use Rattle.lattice_points.proofs.scan.scan_lines.Given as goal

abbrev pub invariant-loop-x2 : goal.invariant-loop-x2
invariant-loop-x2 l = Sweeps l.pair (IsOnPlane l.fn.x1) (λ v. v.x2) l.fn.extent (2 ^ 22) l.x2 l.initial.found l.found
