use Rattle.std.proofs.Common.{◌≤◌, arith}
use Rattle.std.proofs.Math.Facts.{Fits-below}
use Rattle.node_probe.proofs.Counts.{head_few}
use Rattle.node_probe.proofs.solving.judge_head.Goals as goal

pub overflow_cast-len : goal.overflow_cast-len
overflow_cast-len c =
    let few = head_few c.args.geometry.now c.requires.shape c.args.key.now c.args.rows.now.folds.items c.requires.key.at_most c.requires.rows.folds in
    let e = c.len.ensures in
    let v = c.args.rows.now.folds.ok.0 in
    Fits-below tt (let r : c.len.result ≤ 4294967295 = omega (arith, few, e, v) in r)

pub returns-then-branch-clause-solution : goal.returns-then-branch-clause-solution
returns-then-branch-clause-solution c = c.in_ok-is_lifted.ensures.solution c.if-branch.true c.args.width
