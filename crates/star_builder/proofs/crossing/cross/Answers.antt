use Rattle.star_builder.proofs.Crossings.{rising_number}
use Rattle.star_builder.proofs.crossing.cross.Goals as goal

pub invariant_of-crossing : goal.invariant_of-crossing
invariant_of-crossing c =
    let xs = c.args.points.now in
    let f = c.args.member in
    let r = c.ridge_of-ridge.ensures in
    record {
      small = c.requires.small;
      small_facet = c.requires.small_facet;
      few = c.requires.few;
      heights_of = c.requires.heights;
      first = rising_number xs f c.requires.member c.ridge_of-ridge.result.a r.first;
      ab = r.ab;
      bc = r.bc;
      last = rising_number xs f c.requires.member c.ridge_of-ridge.result.c r.third;
      left_out = rising_number xs f c.requires.member c.args.without c.requires.without;
    }
