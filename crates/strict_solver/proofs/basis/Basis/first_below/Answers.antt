use Rattle.std.proofs.Common.{arith, refl}
use Rattle.strict_solver.proofs.Elimination.{at_place, from_place}
use Rattle.strict_solver.proofs.StandingMoves.{first-below, none-before}
use Rattle.strict_solver.proofs.basis.Basis.first_below.Goals as goal

pub is_below-requires-clause-fold : goal.is_below-requires-clause-fold
is_below-requires-clause-fold c = c.requires.folds.each c.loop-j.j _ (at_place c.args.folds.now c.loop-j.j _ _ (omega arith) refl)

pub returns-then-is_below : goal.returns-then-is_below
returns-then-is_below c = first-below c.args.self.now c.args.folds.now c.loop-j.j _ (omega arith) c.if-is_below.ensures c.loop-j.invariant

pub loop-j-preserved : goal.loop-j-preserved
loop-j-preserved c = none-before c.args.self.now c.args.folds.now c.loop-j.j _ c.if-is_below.ensures c.loop-j.invariant

pub returns : goal.returns
returns c = λ j f e. c.loop-j.invariant j f (let a = (from_place c.args.folds.now j f f e).0 in omega arith) e
