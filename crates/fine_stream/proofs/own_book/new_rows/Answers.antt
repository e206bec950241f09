use Rattle.std.proofs.Common.{◌∙◌, arith, length, ◌≤◌}
use Rattle.ntfe_model.proofs.Counts.{faces_few}
use Rattle.fine_stream.proofs.BookLemmas.{rows_more}
use Rattle.fine_stream.proofs.own_book.new_rows.Goals as goal

pub overflow_cast-face : goal.overflow_cast-face
overflow_cast-face c =
    let few : length c.faces-face-end.result.now ≤ 4225 = rw c.faces-face-end.ensures.value (faces_few c.args.geometry.now c.faces-face-end.ensures.shape) in
    omega arith

pub loop-face-preserved : goal.loop-face-preserved
loop-face-preserved c =
    rows_more c.args.geometry.now c.loop-face.face c.loop-face.rows.items c.push.new.self.items c.in_ok-new.field-0 c.loop-face.invariant
    (c.in_ok-new.ensures.patch ∙ c.in_ok-chart.ensures) c.in_ok-new.ensures.items c.in_ok-push.ensures.items
