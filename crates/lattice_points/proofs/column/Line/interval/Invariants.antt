use Rattle.std.proofs.Common.{◌^◌, ℤ, take, [], ◌∷◌}
use Rattle.std.specs.Prelude.{◌↔◌}
use Rattle.ntfe_nums.specs.Sizes.{AreWithin}
use Rattle.lattice_points.specs.Boxes.{IsWithin}
use Rattle.lattice_points.specs.Lines.{place, IsOpen}
use Rattle.lattice_points.proofs.column.Line.interval.Given as goal

abbrev pub invariant-loop-i : goal.invariant-loop-i
invariant-loop-i l = record {
  value : (x : ℤ) → IsWithin l.left x ↔ (IsWithin l.fn.extent x × IsOpen (take l.i l.dual) (place l.self.x1 l.self.x2 l.fn.x3 x));
  size : AreWithin (2 ^ 33) (l.left.low ∷ l.left.high ∷ []);
}
