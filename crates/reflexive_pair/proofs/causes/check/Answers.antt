use Rattle.std.proofs.Common.{◌≡◌, subst, MatchResult}
use Rattle.ntfe_model.specs.Pairs.{VertexLists}
use Rattle.ntfe_model.specs.Reflexive.{IsReflexive}
use Rattle.reflexive_pair.specs.Causes.{HasFault}
use Rattle.reflexive_pair.proofs.CauseLemmas.{ok_exactly, fault_of, answers_each}
use Rattle.reflexive_pair.proofs.causes.check.Goals as goal
use Rattle.reflexive_pair.proofs.causes.check.Goals.{After-decide}

decided : (c : After-decide) → MatchResult c.decide.result (λ u. IsReflexive c.args.pair.now) (HasFault c.args.pair.now)
decided c =
    let e : ◌≡◌ {A = VertexLists} (record { vertices = c.vertices.result.now; dual = c.dual.result.now }) c.args.pair.now =
    λ t. record { vertices = c.vertices.ensures.value t; dual = c.dual.ensures.value t } in
    let P : VertexLists → Type 0 = λ p. MatchResult c.decide.result (λ u. IsReflexive p) (HasFault p) in
    subst P e c.decide.ensures

pub returns-clause-ok : goal.returns-clause-ok
returns-clause-ok c = ok_exactly c.args.pair.now c.decide.result (decided c)

pub returns-clause-fault : goal.returns-clause-fault
returns-clause-fault c = fault_of c.args.pair.now c.decide.result (decided c)

pub returns-clause-each : goal.returns-clause-each
returns-clause-each c = answers_each c.args.pair.now c.decide.result (decided c)
