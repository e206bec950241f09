use Rattle.std.proofs.Common.{◌≡◌, sym, subst, ◌↔◌, List, ℕ, Option, Some}
use Rattle.choice_board.proofs.RowLemmas.{has_other, some_is}
use Rattle.choice_board.proofs.changes.insert_new.Goals as goal

pub returns-in-Some-clause-items : goal.returns-in-Some-clause-items
returns-in-Some-clause-items c =
    has_other c.args.row.now.items c.insert_key.new.row.items c.in-Some.key c.insert_key.ensures.items
    (λ k. (let P : Option (List ℕ) → Type 0 = λ o. (o ≡ Some k) ↔ (k ≡ c.in-Some.key) in subst P (sym c.in-Some.is) (some_is c.in-Some.key k)))
