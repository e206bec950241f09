use Rattle.std.proofs.Common.{◌∙◌}
use Rattle.choice_board.proofs.RowLemmas.{inserted_falls, inserted_has, found_in}
use Rattle.choice_board.proofs.rows.insert_record.Goals as goal

pub unreachable-requires : goal.unreachable-requires
unreachable-requires c =
    let r = found_in (λ x. x.key) c.args.row.now.items c.numbers.result.now c.in-Ok.field-0 c.args.told c.in-Ok.ensures in
    absurd (c.requires.fresh r.0 r.1 (r.2 ∙ c.numbers.ensures))

pub returns-clause-falling : goal.returns-clause-falling
returns-clause-falling c =
    inserted_falls (λ x. x.key) c.args.row.now.items c.insert_at.new.row.items c.numbers.result.now c.in-Err.place c.args.told c.numbers.ensures
    c.requires.falling c.in-Err.ensures c.insert_at.ensures.items

pub returns-clause-items : goal.returns-clause-items
returns-clause-items c = λ r. inserted_has c.args.row.now.items c.insert_at.new.row.items c.in-Err.place c.args.told r c.insert_at.ensures.items
