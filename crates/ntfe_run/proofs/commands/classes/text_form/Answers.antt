use Rattle.std.proofs.Common.{◌≤◌, length, arith}
use Rattle.ntfe_model.proofs.Counts.{faces_few}
use Rattle.ntfe_run.proofs.commands.classes.text_form.Goals as goal

pub overflow_cast-result-2 : goal.overflow_cast-result-2
overflow_cast-result-2 c =
    let few : length c.faces.result.now ≤ 4225 = rw c.faces.ensures.value (faces_few c.args.geometry.now c.faces.ensures.shape) in
    omega arith
