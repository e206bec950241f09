use Rattle.std.proofs.Common.{sym, ◌∙◌, subst, arith}
use Rattle.class_text.specs.Fields.{IsHeight}
use Rattle.class_text.proofs.FieldLists.{no_height, same_head}
use Rattle.class_text.proofs.number_lines.take_heights.Goals as goal

pub returns-then-not-is_height-clause-refused : goal.returns-then-not-is_height-clause-refused
returns-then-not-is_height-clause-refused c e others =
    no_height c.loop.counter c.args.count _ _ others c.loop.invariant (omega arith)
    (λ field more q h. c.is_height.ensures.when_false c.if-not-is_height.true (subst IsHeight (same_head field c.in-Some.field.now more _ (sym q ∙ c.in-Some.ensures)) h))
