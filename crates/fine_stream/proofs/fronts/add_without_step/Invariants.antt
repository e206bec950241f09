use Rattle.std.proofs.Common.{◌≡◌, ◌++◌, take, filter, not}
use Rattle.ntfe_model.specs.Words.{is_same_step}
use Rattle.fine_stream.proofs.fronts.add_without_step.Given as goal

abbrev pub invariant-loop-f : goal.invariant-loop-f
invariant-loop-f l = l.out.items ≡ l.fn.out.items ++ filter (λ f. not (is_same_step l.e f)) (take l.f-index l.steps)
