use Rattle.lattice_points.proofs.InequalityLemmas.{sum_fits, level_fits, level_is, level_size}
use Rattle.lattice_points.proofs.inequality.Inequality.row_level.Goals as goal

pub overflow_add-result : goal.overflow_add-result
overflow_add-result c =
    let s = c.args.self.now in let k = c.requires.short in let z = c.requires.size in
    sum_fits s.c1 c.args.x1 s.c3 c.args.x3 s.rest k.0 z.0 k.1.1.0 z.1.0 k.1.1.1.1.0

pub overflow_add-result-2 : goal.overflow_add-result-2
overflow_add-result-2 c =
    let s = c.args.self.now in let k = c.requires.short in let z = c.requires.size in
    level_fits s.c1 c.args.x1 s.c3 c.args.x3 s.rest k.0 z.0 k.1.1.0 z.1.0 k.1.1.1.1.0

pub returns-clause-value : goal.returns-clause-value
returns-clause-value c =
    let s = c.args.self.now in let k = c.requires.short in let z = c.requires.size in
    level_is s.c1 c.args.x1 s.c3 c.args.x3 s.rest k.0 z.0 k.1.1.0 z.1.0 k.1.1.1.1.0

pub returns-clause-size : goal.returns-clause-size
returns-clause-size c =
    let s = c.args.self.now in let k = c.requires.short in let z = c.requires.size in
    (level_size s.c1 c.args.x1 s.c3 c.args.x3 s.rest k.0 z.0 k.1.1.0 z.1.0 k.1.1.1.1.0, tt)
