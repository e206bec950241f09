use Rattle.choice_board.proofs.RowLemmas.{inserted_has}
use Rattle.choice_board.proofs.rows.insert_key.Goals as goal

pub returns-in-Err-clause-items : goal.returns-in-Err-clause-items
returns-in-Err-clause-items c = λ k. inserted_has c.args.row.now.items c.insert_at.new.row.items c.in-Err.place c.args.key k c.insert_at.ensures.items
