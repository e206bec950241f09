use Rattle.fine_stream.proofs.BookLemmas.{AreFirstRows}
use Rattle.fine_stream.proofs.own_book.new_rows.Given as goal

abbrev pub invariant-loop-face : goal.invariant-loop-face
invariant-loop-face l = AreFirstRows l.geometry l.face l.rows.items
