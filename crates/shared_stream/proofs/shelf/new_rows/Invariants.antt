use Rattle.std.proofs.Common.{◌≡◌, map, take}
use Rattle.ntfe_model.specs.Charts.{patch_of}
use Rattle.shared_stream.proofs.shelf.new_rows.Given as goal

abbrev pub invariant-loop-face : goal.invariant-loop-face
invariant-loop-face l = l.rows.items ≡ map (patch_of l.geometry.points) (take l.face l.geometry.faces)
