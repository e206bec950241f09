use Rattle.std.proofs.Common.{arith, length, ◌≤◌, ◌<◌, ◌∙◌, ap}
use Rattle.ntfe_model.specs.Charts.{patch_at}
use Rattle.ntfe_model.proofs.Counts.{faces_few}
use Rattle.shared_stream.proofs.LentRows.{rows_more}
use Rattle.shared_stream.proofs.shelf_book.new_rows.Goals as goal

pub overflow_cast-face : goal.overflow_cast-face
overflow_cast-face c =
    let few : length c.faces-face-end.result.now ≤ 4225 = rw c.faces-face-end.ensures.value (faces_few c.args.geometry.now c.faces-face-end.ensures.shape) in
    omega arith

pub loop-face-preserved : goal.loop-face-preserved
loop-face-preserved c =
    let l : c.loop-face.face < length c.args.geometry.now.faces = (let k = ap length c.faces-face-end.ensures.value in omega (arith, k)) in
    rows_more c.args.geometry.now c.loop-face.face c.loop-face.rows.items c.push.new.self.items c.new.result l c.loop-face.invariant (c.new.ensures.patch ∙ c.row.ensures ∙ ap (λ g. patch_at g c.loop-face.face) c.requires) c.new.ensures.nothing c.in_ok-push.ensures.items
