use Rattle.fine_stream.proofs.TableLemmas.{row_read}
use Rattle.fine_stream.proofs.tables.Tables.row.Goals as goal

pub returns-in-Some : goal.returns-in-Some
returns-in-Some c = λ h t x p.
    row_read h c.args.self.now.triples.items c.args.place t c.args.self.now.rows.items c.deref.result.now c.in-Some.row.now c.as_slice.result.now x.rows x.short c.deref.ensures.value
    c.in-Some.ensures.lookup.3.0 c.in-Some.ensures.lookup.1 c.as_slice.ensures p
