use Rattle.std.proofs.Common.{◌≡◌, take}
use Rattle.std.specs.Prelude.{All}
use Rattle.ntfe_model.specs.Books.{KeepsAll}
use Rattle.farkas_check.specs.Parts.{KeepsPart}
use Rattle.nogood_store.proofs.checking.fetch_parts.Given as goal

-- the parts so far are kept
abbrev pub invariant-loop-part : goal.invariant-loop-part
invariant-loop-part g l =
    (g.B.Book.shape l.book ≡ l.geometry) × KeepsAll (g.B.Book.keeps l.initial.book) (g.B.Book.keeps l.book) × All (KeepsPart (g.B.Book.keeps l.book) l.geometry) (take l.part-index l.parts)
