use Rattle.std.proofs.Common.{[]}
use Rattle.std.specs.Prelude.{decimal, map}
use Rattle.class_text.proofs.FieldLists.{fields_of_numbers, line_numbers, numbers_line, numbers_taken}
use Rattle.class_text.proofs.number_lines.read_numbers.Goals as goal

pub returns-in_default-clause-refused : goal.returns-in_default-clause-refused
returns-in_default-clause-refused c e ns is =
    c.in_default.ensures (map decimal ns) (fields_of_numbers c.args.word.now c.args.line.now ns c.args.count c.args.limit c.requires.word c.requires.limit is)

pub returns-then-not-branch-clause-refused : goal.returns-then-not-branch-clause-refused
returns-then-not-branch-clause-refused c e ns is =
    c.in_ok-take_numbers.ensures.refused c.if-not-branch.true ns []
    (line_numbers c.args.word.now c.args.line.now ns c.args.count c.args.limit _ c.requires.word c.requires.limit c.in-Some.ensures is)

pub returns-clause-read : goal.returns-clause-read
returns-clause-read c e =
    numbers_line c.args.word.now c.args.line.now _ c.args.count c.args.limit _ _ c.in-Some.ensures (c.in_ok-take_numbers.ensures.taken c.if-not-branch.false) (c.are_done.ensures.when_true e)

pub returns-clause-refused : goal.returns-clause-refused
returns-clause-refused c e ns is =
    c.are_done.ensures.when_false e
    (numbers_taken c.args.count c.args.limit _ ns _ _ (c.in_ok-take_numbers.ensures.taken c.if-not-branch.false)
    (line_numbers c.args.word.now c.args.line.now ns c.args.count c.args.limit _ c.requires.word c.requires.limit c.in-Some.ensures is))
