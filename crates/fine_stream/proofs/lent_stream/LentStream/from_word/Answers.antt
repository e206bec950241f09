use Rattle.std.proofs.Common.{subst}
use Rattle.fine_stream.specs.Places.{AreTables}
use Rattle.fine_stream.specs.declared.tables.Tables.{Tables}
use Rattle.fine_stream.proofs.Standing.{place_next}
use Rattle.fine_stream.proofs.lent_stream.LentStream.from_word.Goals as goal

pub invariant_of-result : goal.invariant_of-result
invariant_of-result c =
    let h = c.args.tables.now.patch in
    let P : Tables → Type 0 = λ x. AreTables h x in
    record {
      cursor = (_, record { place = place_next h c.requires.0 c.args.last.now c.in_ok-word.word c.requires.1 c.in_ok-word.ensures });
      path = tt;
      tables = subst P c.tables-tables.ensures.value c.tables-tables.ensures.tables;
      placed = tt;
    }
