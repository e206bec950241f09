use Rattle.lattice_points.proofs.inequality.add_sums.Goals as goal

pub loop-n-preserved : goal.loop-n-preserved
loop-n-preserved c = λ ms all hm old. c.in_ok-add_sum.ensures ms hm (all c.loop-n.n-index _ c.loop-n-test.true) (c.loop-n.invariant ms all hm old)
