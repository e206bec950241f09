use Rattle.std.proofs.Common.{subst, sym, ℕ, List}
use Rattle.std.specs.Prelude.{Option}
use Rattle.steal_workers.specs.Listings.{TakesPart, at_start}
use Rattle.steal_workers.proofs.Ends.{none_yet, part_written}
use Rattle.steal_workers.proofs.pool.Pool.write_or_end.Goals as goal

pub returns-in-Err-clause-served : goal.returns-in-Err-clause-served
returns-in-Err-clause-served g c =
    let a = g.K.Sink.taken c.args.out.now in
    subst (λ (x : Option (List ℕ)). TakesPart c.args.listing.now (record { before = a; after = x })) (sym c.in-Err.ensures.none)
    (part_written (at_start c.args.listing.now) (record { before = a; after = a }) (none_yet c.args.listing.now a))
