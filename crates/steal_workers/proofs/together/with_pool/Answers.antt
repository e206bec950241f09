use Rattle.std.proofs.Common.{◌≡◌, ap, ◌∙◌, subst}
use Rattle.steal_workers.specs.Listings.{Listed, HasServed}
use Rattle.steal_workers.specs.Pools.{Pooled, listed_by}
use Rattle.steal_workers.proofs.together.with_pool.Goals as goal

pub returns-clause-served : goal.returns-clause-served
returns-clause-served g c =
    let pool = c.in_ok-pool.ensures.pool in
    let geometry = ap (λ (p : Pooled). p.geometry) pool ∙ c.geometry.ensures in
    let start = ap (λ (p : Pooled). p.start) pool ∙ c.in_ok-start.ensures ∙ c.start.ensures.value in
    let width = ap (λ (p : Pooled). p.width) pool ∙ c.width.ensures.value in
    let same : listed_by c.in_ok-pool.pool c.form.result.now c.limit.result ≡ c.args.listing.now =
    (λ i. record { geometry = geometry i; form = c.form.ensures.form i; kept = c.form.ensures.kept i; start = start i; limit = c.limit.ensures.value i; width = width i }) in
    subst (λ (l : Listed). HasServed l (record { before = g.K.Sink.taken c.args.out.now; after = g.K.Sink.taken c.serve_beside.new.out }) c.serve_beside.result) same c.serve_beside.ensures.served
