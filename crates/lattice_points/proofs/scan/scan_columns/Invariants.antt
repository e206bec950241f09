use Rattle.std.proofs.Common.{◌^◌}
use Rattle.lattice_points.specs.Scans.{IsOnLine}
use Rattle.lattice_points.proofs.ScanLemmas.{Sweeps}
use Rattle.lattice_points.proofs.scan.scan_columns.Given as goal

abbrev pub invariant-loop-x3 : goal.invariant-loop-x3
invariant-loop-x3 l = Sweeps l.pair (IsOnLine l.fn.x1 l.fn.x2) (λ v. v.x3) l.fn.extent (2 ^ 11) l.x3 l.initial.found l.found
