use Rattle.fine_stream.proofs.Standing.{place_next}
use Rattle.fine_stream.proofs.stream.Stream.from_word.Goals as goal

pub invariant_of-result : goal.invariant_of-result
invariant_of-result c = record {
  cursor = (_, record { place = place_next c.args.chart c.requires.0 c.args.last.now c.in_ok-word.word c.requires.1 c.in_ok-word.ensures });
  path = tt;
  tables = c.in_ok-tables.ensures;
  placed = tt;
}
