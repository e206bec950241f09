use Rattle.fine_stream.proofs.Standing.{empty_keeps, last_closes, last_path}
use Rattle.fine_stream.proofs.find.path_of.Goals as goal

pub replay-requires : goal.replay-requires
replay-requires c =
    let n = c.in_ok-path-in-After.ensures in
    let k = last_closes c.args.chart.now c.boundary.result.now c.args.position.now c.in-After.word c.as_slice-word.result.now c.boundary.ensures c.in-After.is c.as_slice-word.ensures c.requires in
    (c.boundary.result.now, k.0, empty_keeps c.boundary.result.now c.in_ok-path-in-After.path n.word n.triangles n.steps n.starts, k.1.closes)

pub returns-in_ok-replay-in-After-clause-path : goal.returns-in_ok-replay-in-After-clause-path
returns-in_ok-replay-in-After-clause-path c =
    let n = c.in_ok-path-in-After.ensures in
    let k = last_closes c.args.chart.now c.boundary.result.now c.args.position.now c.in-After.word c.as_slice-word.result.now c.boundary.ensures c.in-After.is c.as_slice-word.ensures c.requires in
    last_path c.args.chart.now c.boundary.result.now c.args.position.now c.in-After.word c.as_slice-word.result.now c.replay.new.path k.0 c.boundary.ensures c.in-After.is c.as_slice-word.ensures k.1
    (c.in_ok-replay-in-After.ensures.kept c.boundary.result.now k.0 (empty_keeps c.boundary.result.now c.in_ok-path-in-After.path n.word n.triangles n.steps n.starts) k.1.closes)
