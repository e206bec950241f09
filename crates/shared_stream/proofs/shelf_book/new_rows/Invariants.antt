use Rattle.shared_stream.proofs.LentRows.{AreFirstRows}
use Rattle.shared_stream.proofs.shelf_book.new_rows.Given as goal

abbrev pub invariant-loop-face : goal.invariant-loop-face
invariant-loop-face l = AreFirstRows l.geometry l.face l.rows.items
