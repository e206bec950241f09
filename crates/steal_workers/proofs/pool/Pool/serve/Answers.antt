use Rattle.std.proofs.Common.{subst, ap, ◌∙◌}
use Rattle.steal_workers.specs.Listings.{Listed, HasServed}
use Rattle.steal_workers.specs.Pools.{Pooled, listed_by}
use Rattle.steal_workers.proofs.pool.Pool.serve.Goals as goal

pub returns-clause-served : goal.returns-clause-served
returns-clause-served g c =
    subst (λ (l : Listed). HasServed l (record { before = g.K.Sink.taken c.args.out.now; after = g.K.Sink.taken c.write_or_end-served.new.out }) c.write_or_end-served.result)
    (c.new-listing.ensures ∙ ap (λ (p : Pooled). listed_by p c.args.form.now c.args.limit) c.self.view_is) c.write_or_end-served.ensures.served
