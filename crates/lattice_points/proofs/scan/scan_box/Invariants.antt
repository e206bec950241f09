use Rattle.std.proofs.Common.{◌^◌}
use Rattle.lattice_points.specs.Scans.{IsAnywhere}
use Rattle.lattice_points.proofs.ScanLemmas.{Sweeps}
use Rattle.lattice_points.proofs.scan.scan_box.Given as goal

abbrev pub invariant-loop-x1 : goal.invariant-loop-x1
invariant-loop-x1 l = Sweeps l.pair IsAnywhere (λ v. v.x1) l.bounds.x1 (2 ^ 33) l.x1 l.initial.found l.found
