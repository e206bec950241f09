use Rattle.std.proofs.Common.{List, subst, sym}
use Rattle.std.specs.Prelude.{All}
use Rattle.fine_stream.specs.Places.{IsFan}
use Rattle.fine_stream.specs.declared.tables.Fan.{Fan}
use Rattle.ntfe_model.proofs.Listings.{all_next}
use Rattle.fine_stream.proofs.tables.add_fans.Goals as goal

pub loop-b-preserved : goal.loop-b-preserved
loop-b-preserved c =
    let P : List Fan → Type 0 = λ fs. All (IsFan c.args.chart.now c.args.triples.now) fs in
    subst P (sym c.in_ok-push.ensures.items) (all_next (IsFan c.args.chart.now c.args.triples.now) c.loop-b.fans.items _ c.loop-b.invariant c.in_ok-candidates.ensures)
