use Rattle.std.proofs.Common.{arith}
use Rattle.class_text.proofs.FieldLists.{no_number, large_number}
use Rattle.class_text.proofs.number_lines.take_numbers.Goals as goal

pub returns-in_default-clause-refused : goal.returns-in_default-clause-refused
returns-in_default-clause-refused c e ms others =
    no_number c.loop.counter c.args.count c.args.limit _ ms _ _ others c.requires c.loop.invariant (omega arith) c.in_default.ensures

pub returns-then-number-limit-clause-refused : goal.returns-then-number-limit-clause-refused
returns-then-number-limit-clause-refused c e ms others =
    large_number c.loop.counter c.args.count c.args.limit c.in-Some.number _ ms _ _ _ others c.requires c.loop.invariant (omega arith) c.in-Some.ensures (omega arith)
