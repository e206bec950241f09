use Rattle.std.proofs.Common.{◌≡◌, ◌<◌, ℕ, get_or}
use Rattle.ntfe_model.specs.Words.{HasItem}
use Rattle.ntfe_model.specs.Books.{KeepsItem, KeepsAll}
use Rattle.node_probe.proofs.fetching.fetch_head.Given as goal

abbrev pub invariant-loop-face : goal.invariant-loop-face
invariant-loop-face g l =
    (g.B.Book.shape l.book ≡ g.B.Book.shape l.initial.book)
    × KeepsAll (g.B.Book.keeps l.initial.book) (g.B.Book.keeps l.book)
    × ((k : ℕ) → k < l.face → KeepsItem (g.B.Book.keeps l.book) k (get_or l.key k 0))
    × ((k : ℕ) → k < l.face → HasItem (g.B.Book.shape l.initial.book) k (get_or l.key k 0))
