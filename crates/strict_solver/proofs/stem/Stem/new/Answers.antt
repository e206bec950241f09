use Rattle.strict_solver.proofs.Cutting.{settled_start}
use Rattle.strict_solver.proofs.stem.Stem.new.Goals as goal

pub invariant_of-result : goal.invariant_of-result
invariant_of-result c = let s = settled_start c.start.new.self c.new-2.result.items c.new-2.ensures.items c.in_ok-start.ensures.stands in (s.0, λ e. s.1, λ e. s.2)
