use Rattle.lattice_points.proofs.InequalityLemmas.{left_fits, both_fit, both_is, both_size}
use Rattle.lattice_points.proofs.inequality.combined.Goals as goal

pub overflow_mul-result : goal.overflow_mul-result
overflow_mul-result c = let a = c.args in let s = c.requires in left_fits a.q a.a a.p a.b s.0 s.1.0 s.1.1.0 s.1.1.1.0

pub overflow_mul-result-2 : goal.overflow_mul-result-2
overflow_mul-result-2 c = let a = c.args in let s = c.requires in left_fits a.p a.b a.p a.b s.1.1.0 s.1.1.1.0 s.1.1.0 s.1.1.1.0

pub overflow_add-result : goal.overflow_add-result
overflow_add-result c = let a = c.args in let s = c.requires in both_fit a.q a.a a.p a.b s.0 s.1.0 s.1.1.0 s.1.1.1.0

pub returns-clause-size : goal.returns-clause-size
returns-clause-size c = let a = c.args in let s = c.requires in both_size a.q a.a a.p a.b s.0 s.1.0 s.1.1.0 s.1.1.1.0

pub returns-clause-value : goal.returns-clause-value
returns-clause-value c = let a = c.args in let s = c.requires in both_is a.q a.a a.p a.b s.0 s.1.0 s.1.1.0 s.1.1.1.0
