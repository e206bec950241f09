use Rattle.lattice_points.proofs.inequality.add_those_with.Goals as goal

pub returns-then-lacks : goal.returns-then-lacks
returns-then-lacks c = λ ms all hm old. c.in_ok-add.ensures ms c.args.cancelled (hm, c.lacks.ensures c.if-lacks.true) old
