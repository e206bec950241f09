use Rattle.lattice_points.proofs.inequality.eliminate.Goals as goal

pub loop-m-preserved : goal.loop-m-preserved
loop-m-preserved c = λ ms all. c.in_ok-add_those_with.ensures ms all (all c.loop-m.m-index _ c.loop-m-test.true) (c.loop-m.invariant ms all)
