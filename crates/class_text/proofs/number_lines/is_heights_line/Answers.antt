use Rattle.std.proofs.Common.{[]}
use Rattle.std.specs.Prelude.{map}
use Rattle.std.specs.Fmt.{signed_decimal}
use Rattle.class_text.specs.Forms.{layout_of}
use Rattle.class_text.proofs.FieldLists.{fields_of_heights, line_heights, heights_line, heights_taken}
use Rattle.class_text.proofs.number_lines.is_heights_line.Goals as goal

pub returns-in_default-clause-when_false : goal.returns-in_default-clause-when_false
returns-in_default-clause-when_false c e h = c.in_default.ensures (map signed_decimal h.heights) (fields_of_heights (layout_of c.args.form.now) c.args.line.now h)

pub returns-then-take_heights-clause-when_true : goal.returns-then-take_heights-clause-when_true
returns-then-take_heights-clause-when_true c e =
    heights_line (layout_of c.args.form.now) c.args.line.now _ _ c.in-Some.ensures (c.take_heights.ensures.taken c.if-take_heights.true) (c.are_done.ensures.when_true e)

pub returns-then-take_heights-clause-when_false : goal.returns-then-take_heights-clause-when_false
returns-then-take_heights-clause-when_false c e h =
    c.are_done.ensures.when_false e
    (heights_taken c.args.form.now.points _ _ (c.take_heights.ensures.taken c.if-take_heights.true) (line_heights (layout_of c.args.form.now) c.args.line.now _ c.in-Some.ensures h))

pub returns-else-take_heights-clause-when_false : goal.returns-else-take_heights-clause-when_false
returns-else-take_heights-clause-when_false c e h =
    c.take_heights.ensures.refused e [] (line_heights (layout_of c.args.form.now) c.args.line.now _ c.in-Some.ensures h)
