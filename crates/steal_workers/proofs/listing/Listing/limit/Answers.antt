use Rattle.std.proofs.Common.{◌≡◌, arith}
use Rattle.steal_workers.proofs.listing.Listing.limit.Goals as goal

pub returns-in-Some-clause-small : goal.returns-in-Some-clause-small
returns-in-Some-clause-small c n e = let q : c.ranged.result ≡ n = cc in let r = c.ranged.ensures.small in omega (arith, q, r)
