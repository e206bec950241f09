use Rattle.steal_workers.specs.Listings.{at_start}
use Rattle.steal_workers.proofs.Ends.{none_yet, part_written}
use Rattle.ntfe_run.proofs.listing.list_here.Goals as goal

pub returns-in_default-clause-served : goal.returns-in_default-clause-served
returns-in_default-clause-served g c =
    let a = g.K.Sink.taken c.args.out.now in
    part_written (at_start c.args.listing.now) (record { before = a; after = a }) (none_yet c.args.listing.now a)
