use Rattle.std.proofs.Common.{refl}
use Rattle.lattice_points.proofs.InequalityLemmas.{vertex_given, coordinate_is}
use Rattle.lattice_points.proofs.inequality.Inequality.of.Goals as goal

pub returns : goal.returns
returns c = λ ms k.
    let m = c.args.m.now in
    let cs = c.coordinates-c.result.now in
    let e = c.coordinates-c.ensures.list in
    let h = c.requires in
    vertex_given ms m _ (coordinate_is m cs 0 e h) (coordinate_is m cs 1 e h) (coordinate_is m cs 2 e h) (coordinate_is m cs 3 e h) refl h k
