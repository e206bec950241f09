use Rattle.std.proofs.Common.{◌≡◌, ◌∙◌, false, true≢false, sym}
use Rattle.ntfe_words.specs.Parse.{has_demo_option, has_list_option}
use Rattle.ntfe_words.proofs.Commands.{no-option}
use Rattle.ntfe_words.proofs.meaning.faces.Goals.{then-has_demo_option, else-has_demo_option}
use Rattle.ntfe_words.proofs.meaning.faces.Goals as goal

pub returns-else-has_list_option : goal.returns-else-has_list_option
returns-else-has_list_option c r given plains =
    let none : (has_demo_option c.args.given.now ≡ false) × (has_list_option c.args.given.now ≡ false) = elim c.if-has_demo_option.branch [
      | then-has_demo_option w ↦ absurd (true≢false (sym w.if-has_demo_option.true ∙ sym w.value-is ∙ c.if-has_list_option.false))
      | else-has_demo_option w ↦ (sym c.has_demo_option.ensures ∙ w.if-has_demo_option.false, sym w.has_list_option.ensures ∙ sym w.value-is ∙ c.if-has_list_option.false)
    ] in
    (plains, no-option r c.args.given.now given none.0 none.1)
