use Rattle.fine_stream.proofs.TableLemmas.{AreFirstRows}
use Rattle.fine_stream.proofs.tables.rows_of.Given as goal

abbrev pub invariant-loop-t : goal.invariant-loop-t
invariant-loop-t l = AreFirstRows l.chart l.triples l.t-index l.rows.items
