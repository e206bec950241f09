use Rattle.nogood_store.proofs.Fetched.{checked}
use Rattle.nogood_store.proofs.checking.is_certificate.Goals as goal

pub returns-clause-certificate : goal.returns-clause-certificate
returns-clause-certificate g c =
    checked (g.B.Book.keeps c.fetch_parts.new.book) c.args.geometry.now c.args.nogood.now _ _ _ c.as_slice.ensures c.in_ok-fetch_parts.ensures.fetched c.if-not-branch.false c.verify.ensures.verdict
