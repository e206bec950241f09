use Rattle.std.proofs.Common.{take}
use Rattle.std.specs.Prelude.{All}
use Rattle.lattice_points.specs.Boxes.{IsWithin}
use Rattle.lattice_points.proofs.rows.Rows.contains.Given as goal

abbrev pub invariant-loop-extent : goal.invariant-loop-extent
invariant-loop-extent l = All (λ e. IsWithin e l.fn.x2 → ⊥) (take l.extent-index l.extent-items)
