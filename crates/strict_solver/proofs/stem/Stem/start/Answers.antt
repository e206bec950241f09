use Rattle.strict_solver.proofs.Cutting.{settled_start}
use Rattle.strict_solver.proofs.stem.Stem.start.Goals as goal

pub invariant_of-self-2 : goal.invariant_of-self-2
invariant_of-self-2 c = let s = settled_start c.start.new.self c.clear.new.self.items c.clear.ensures.items c.in_ok-start.ensures.stands in (s.0, λ e. s.1, λ e. s.2)
