use Rattle.std.proofs.Common.{arith, length, ◌≤◌}
use Rattle.ntfe_model.proofs.Counts.{faces_few}
use Rattle.shared_stream.proofs.shelf.new_rows.Goals as goal

pub overflow_cast-face : goal.overflow_cast-face
overflow_cast-face c =
    let few : length c.faces-face-end.result.now ≤ 4225 = rw c.faces-face-end.ensures.value (faces_few c.args.geometry.now c.faces-face-end.ensures.shape) in
    omega arith
