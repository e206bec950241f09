use Rattle.std.proofs.Common.{[], ◌∷◌, ◌∙◌}
use Rattle.std.proofs.lemmas.Bool.{eqb-false}
use Rattle.class_text.proofs.UniqueLines.{one_number, only_number}
use Rattle.class_text.proofs.reader.is_count_line.Goals as goal

pub returns-then-not-branch-clause-when_false : goal.returns-then-not-branch-clause-when_false
returns-then-not-branch-clause-when_false c e h =
    c.in_ok-read_numbers.ensures.refused c.if-not-branch.true (c.args.count ∷ []) (one_number c.args.word.now c.args.line.now c.args.count c.requires.small h)

pub returns-clause-when_false : goal.returns-clause-when_false
returns-clause-when_false c e h =
    let first = only_number c.args.word.now c.args.line.now _ c.args.count c.index.result.now c.requires.word c.requires.small (c.in_ok-read_numbers.ensures.read c.if-not-branch.false) h in
    eqb-false _ _ e (c.from.ensures ∙ c.index.ensures ∙ first)
