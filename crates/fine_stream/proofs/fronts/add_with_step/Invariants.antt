use Rattle.std.proofs.Common.{◌≡◌, ◌++◌, cond, drop}
use Rattle.ntfe_model.specs.Words.{with_step as with_waiting}
use Rattle.fine_stream.proofs.fronts.add_with_step.Given as goal

abbrev pub invariant-loop-f : goal.invariant-loop-f
invariant-loop-f l = l.out.items ++ cond l.placed (drop l.f-index l.steps) (with_waiting l.e (drop l.f-index l.steps)) ≡ l.fn.out.items ++ with_waiting l.e l.steps
