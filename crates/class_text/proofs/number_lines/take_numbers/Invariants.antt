use Rattle.class_text.specs.Fields.{fields_left, AreNumbers}
use Rattle.class_text.proofs.number_lines.take_numbers.Given as goal

abbrev pub invariant-loop : goal.invariant-loop
invariant-loop l = AreNumbers l.counter l.limit l.out.items (fields_left l.initial.fields) (fields_left l.fields)
