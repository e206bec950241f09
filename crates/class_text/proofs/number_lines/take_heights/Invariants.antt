use Rattle.class_text.specs.Fields.{fields_left, AreHeights}
use Rattle.class_text.proofs.number_lines.take_heights.Given as goal

abbrev pub invariant-loop : goal.invariant-loop
invariant-loop l = AreHeights l.counter (fields_left l.initial.fields) (fields_left l.fields)
