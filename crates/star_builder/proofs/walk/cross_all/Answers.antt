use Rattle.std.proofs.Common.{length, arith}
use Rattle.ntfe_model.specs.Stars.{order_of}
use Rattle.star_builder.proofs.WalkSteps.{step_none, step_next, step_end}
use Rattle.star_builder.proofs.walk.cross_all.Goals as goal

pub loop-without-init : goal.loop-without-init
loop-without-init c =
    let g = c.args.geometry.now in
    step_none g.pair.dual g.points c.args.heights.now (order_of c.args.push (length g.points)) c.args.member c.args.reached.now.items

pub loop-without-preserved : goal.loop-without-preserved
loop-without-preserved c =
    let g = c.args.geometry.now in
    step_next g.pair.dual g.points c.args.heights.now (order_of c.args.push (length g.points)) c.args.member c.loop-without.without-index c.args.reached.now.items c.loop-without.reached.items c.cross_one.new.reached.items
    (let t = c.loop-without-test.true in omega arith) c.loop-without.invariant c.in_ok-cross_one.ensures

pub returns : goal.returns
returns c =
    let g = c.args.geometry.now in
    step_end g.pair.dual g.points c.args.heights.now (order_of c.args.push (length g.points)) c.args.member c.loop-without.without-index c.args.reached.now.items c.loop-without.reached.items
    (let t = c.loop-without-test.false in omega arith) c.loop-without.invariant
