use Rattle.std.proofs.Common.{◌≡◌, sym, subst, ◌↔◌, ℕ, List, Some}
use Rattle.choice_board.specs.Making.{key_made, record_made}
use Rattle.choice_board.specs.declared.opening.Made.{Made}
use Rattle.choice_board.proofs.RowLemmas.{has_other, some_is}
use Rattle.choice_board.proofs.changes.put.Goals as goal

pub returns-in-Raised-clause-keys : goal.returns-in-Raised-clause-keys
returns-in-Raised-clause-keys c =
    has_other c.args.keys.now.items c.insert_key.new.row.items c.raise.result c.insert_key.ensures.items
    (λ k. (let P : Made → Type 0 = λ m. (key_made c.args.key m ≡ Some k) ↔ (k ≡ c.raise.result) in
    let Q : List ℕ → Type 0 = λ j. (Some j ≡ Some k) ↔ (k ≡ c.raise.result) in
    subst P (sym c.in-Raised.is) (subst Q c.raise.ensures (some_is c.raise.result k))))

pub returns-in-Told-clause-recorded : goal.returns-in-Told-clause-recorded
returns-in-Told-clause-recorded c =
    has_other c.args.recorded.now.items c.insert_record.new.row.items (record { key = c.args.key; found = c.in-Told.found }) c.insert_record.ensures.items
    (λ x. (let P : Made → Type 0 = λ m. (record_made c.args.key m ≡ Some x) ↔ (x ≡ record { key = c.args.key; found = c.in-Told.found }) in
    subst P (sym c.in-Told.is) (some_is (record { key = c.args.key; found = c.in-Told.found }) x)))
