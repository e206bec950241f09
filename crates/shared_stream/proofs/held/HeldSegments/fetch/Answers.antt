use Rattle.std.proofs.Common.{subst, arith}
use Rattle.ntfe_model.specs.Charts.{Patch}
use Rattle.ntfe_model.specs.Words.{HasItemAt}
use Rattle.fine_stream.proofs.Finding.{when_false}
use Rattle.shared_stream.proofs.HeldLemmas.{no_item_behind}
use Rattle.shared_stream.proofs.held.HeldSegments.fetch.Goals as goal

pub returns-then-not-branch-clause-answer : goal.returns-then-not-branch-clause-answer
returns-then-not-branch-clause-answer c =
    let P : Patch → Type 0 = λ h. ¬ (HasItemAt h c.args.number) in
    subst P c.loop-self.invariant.patch (no_item_behind _ _ c.args.number (omega arith) (when_false c.in_ok-grow.field-0 _ _ c.if-not-branch.true c.in_ok-grow.ensures.answer).1)
