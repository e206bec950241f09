use Rattle.std.proofs.Common.{subst}
use Rattle.std.specs.Prelude.{IfOk}
use Rattle.steal_workers.specs.Probing.{Probes, IsVerdictOf, IsVerdictOn}
use Rattle.steal_workers.proofs.Probed.{true_verdict, ok_then}
use Rattle.steal_workers.proofs.probing.Prober.find.Goals as goal

pub returns-clause-verdict : goal.returns-clause-verdict
returns-clause-verdict g c =
    let key = c.args.key.now in
    let set = c.args.set.now in
    let own = c.self.inside in
    subst (λ (x : Probes). IfOk c.verdict_of.result (IsVerdictOn x.geometry x.width key)) c.self.view_is
    (ok_then (IsVerdictOf set c.in_ok-finding.finding) (IsVerdictOn own.geometry.now own.width key) c.verdict_of.result
    (λ v e. true_verdict own.geometry.now own.width key set c.self.invariant.low c.self.invariant.high c.in_ok-finding.finding v c.in_ok-finding.ensures.finding e) c.verdict_of.ensures)
