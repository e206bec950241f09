use Rattle.fine_stream.proofs.TableLemmas.{IsRowing}
use Rattle.fine_stream.proofs.tables.row_of.Given as goal

abbrev pub invariant-loop-u : goal.invariant-loop-u
invariant-loop-u l = IsRowing l.chart l.triples l.t l.u-index l.row.items
