use Rattle.std.proofs.Common.{◌≡◌, take, map}
use Rattle.ntfe_model.specs.Flats.{flat_of}
use Rattle.face_chart.proofs.table.Table.new.Given as goal

abbrev pub invariant-loop-place : goal.invariant-loop-place
invariant-loop-place l = l.flat.items ≡ map (flat_of l.axes) (take l.place-index l.place-items)
