use Rattle.strict_solver.proofs.Going.{going-loads, going-idles}
use Rattle.strict_solver.proofs.GoingOn.{going_on-infeasible}
use Rattle.strict_solver.proofs.laws.goes_on.Goals as goal

pub returns : goal.returns
returns c = λ columns rs q w. record {
  loads = λ end l k e f low h. going-loads columns rs q w end e l f low k h;
  idles = λ end l e f low h. going-idles columns rs q w end e l f low h;
  fails = λ ms f. going_on-infeasible columns rs q w ms f;
}
