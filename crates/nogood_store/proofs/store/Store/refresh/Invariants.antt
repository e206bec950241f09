use Rattle.std.proofs.Common.{◌≡◌, ◌+◌, ◌≤◌, length}
use Rattle.ntfe_model.specs.Books.{KeepsAll}
use Rattle.nogood_store.specs.Receipts.{Refreshes}
use Rattle.nogood_store.proofs.store.Store.refresh.Given as goal

abbrev pub invariant-loop-turn : goal.invariant-loop-turn
invariant-loop-turn g l =
    (g.B.Book.shape l.book ≡ l.geometry) × KeepsAll (g.B.Book.keeps l.initial.book) (g.B.Book.keeps l.book)
    × Refreshes l.self l.geometry l.initial.reader l.initial.set l.reader l.set × (length l.set ≡ length l.initial.set + l.added) × (l.added ≤ l._turn)
