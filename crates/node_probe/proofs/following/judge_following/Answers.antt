use Rattle.std.proofs.lemmas.Result.{IfOk-weaker}
use Rattle.node_probe.specs.Findings.{IsSolution}
use Rattle.node_probe.specs.Followed.{IsJudgement}
use Rattle.node_probe.proofs.KeyLemmas.{match_some}
use Rattle.node_probe.proofs.FollowedLemmas.{solution_judged}
use Rattle.node_probe.proofs.following.judge_following.Goals as goal

pub returns-clause-judged : goal.returns-clause-judged
returns-clause-judged c =
    let g = c.args.geometry.now in
    let key = c.args.key.now in
    IfOk-weaker c.judge_head.result (IsSolution g c.args.width key) (IsJudgement g c.args.width key) (λ x h. solution_judged g c.args.width key x h) c.judge_head.ensures.solution

pub returns-in-Some-clause-judged : goal.returns-in-Some-clause-judged
returns-in-Some-clause-judged c = match_some _ _ c.in_ok-finding.field-0 c.in-Some.finding c.in_ok-finding.ensures.finding c.in-Some.is c.args.width
