use Rattle.std.proofs.Common.{arith}
use Rattle.node_probe.proofs.KeyLemmas.{match_some}
use Rattle.node_probe.proofs.FindingLemmas.{key_few}
use Rattle.node_probe.proofs.FollowedLemmas.{solution_judged, judged_out, found_out}
use Rattle.node_probe.proofs.probing.probe_cached.Goals as goal

pub head_rows-requires-clause-few : goal.head_rows-requires-clause-few
head_rows-requires-clause-few g c = let k = key_few c.args.geometry.now c.points.ensures.shape c.args.key.now c.requires.key in omega (arith, k)

pub returns-in-Some-clause-finding : goal.returns-in-Some-clause-finding
returns-in-Some-clause-finding g c = match_some _ _ c.in_ok-finding.field-0 c.in-Some.finding c.in_ok-finding.ensures.finding c.in-Some.is c.args.width

pub returns-in-Some-clause-pruned : goal.returns-in-Some-clause-pruned
returns-in-Some-clause-pruned g c =
    found_out c.args.geometry.now c.args.width c.args.key.now c.args.set.now c.in-Some.finding c.points.ensures.shape
    (match_some _ _ c.in_ok-finding.field-0 c.in-Some.finding c.in_ok-finding.ensures.finding c.in-Some.is c.args.width)

pub returns-clause-pruned : goal.returns-clause-pruned
returns-clause-pruned g c = judged_out c.args.geometry.now c.args.width c.args.key.now c.in_ok-finding-2.finding c.points.ensures.shape (solution_judged c.args.geometry.now c.args.width c.args.key.now c.in_ok-finding-2.finding c.in_ok-finding-2.ensures.solution)
