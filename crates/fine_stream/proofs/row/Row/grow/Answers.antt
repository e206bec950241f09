use Rattle.std.proofs.Common.{◌∙◌, ap, subst, arith, length, ℕ, ◌≤◌}
use Rattle.ntfe_model.specs.Words.{HasItemAt}
use Rattle.fine_stream.specs.Rows.{FirstItems}
use Rattle.fine_stream.proofs.RowLemmas.{row_longer, row_ended, pushed, no_more}
use Rattle.fine_stream.proofs.row.Row.grow.Goals as goal

pub invariant_of-self-in-None : goal.invariant_of-self-in-None
invariant_of-self-in-None c =
    row_ended c.self.inside.stream c.next.new.self c.in_ok-next.field-0 c.self.inside.items.items c.reserve.new.self.items c.self.invariant c.in_ok-next.ensures.patch c.in_ok-next.ensures.answer
    c.in-None.is c.reserve.ensures.items

pub invariant_of-self-in-Some : goal.invariant_of-self-in-Some
invariant_of-self-in-Some c =
    row_longer c.self.inside.stream c.next.new.self c.in_ok-next.field-0 c.in-Some.item c.self.inside.items.items c.reserve.new.self.items c.push.new.self.items c.self.invariant
    c.in_ok-next.ensures.patch c.in_ok-next.ensures.answer c.in-Some.is c.reserve.ensures.items
    (pushed c.reserve.new.self.items c.push.new.self.items c.in-Some.item _ (c.push.ensures.succeeds (omega (arith, c.in_ok-reserve.ensures.ok))) c.push.ensures.items)

pub returns-in-None-clause-answer : goal.returns-in-None-clause-answer
returns-in-None-clause-answer c =
    let P : FirstItems → Type 0 = λ r. (k : ℕ) → length r.items ≤ k → HasItemAt r.patch k → ⊥ in (
      c.reserve.ensures.items ∙ ap (λ r. r.items) c.self.view_is,
      subst P c.self.view_is (no_more c.self.inside.stream c.next.new.self c.in_ok-next.field-0 c.self.inside.items.items c.self.invariant c.in_ok-next.ensures.patch c.in_ok-next.ensures.answer c.in-None.is),
    )
