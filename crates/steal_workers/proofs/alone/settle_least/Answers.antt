use Rattle.std.proofs.Common.{sym, subst, ℕ, List}
use Rattle.std.proofs.lemmas.Result.{IfOk-weaker}
use Rattle.ntfe_model.specs.Shapes.{Shape}
use Rattle.choice_board.specs.Telling.{IsLeastSettled}
use Rattle.choice_board.specs.Verdicts.{IsTrueOf}
use Rattle.choice_board.proofs.LeastLemmas.{least_only}
use Rattle.steal_workers.specs.Boards.{HasSettledLeast, StaysUnderWay}
use Rattle.steal_workers.proofs.Settled.{settled_least, least_under_way}
use Rattle.steal_workers.proofs.alone.settle_least.Goals as goal

pub settle_least-requires : goal.settle_least-requires
settle_least-requires g c k least =
    subst (λ (x : Shape × List ℕ). IsTrueOf x.0 x.1 c.in_ok-verdict.verdict)
    (λ i. (sym c.requires.geometry i, least_only c.args.board.now c.in-Some.key.now k c.in-Some.ensures.value.1 least i)) c.in_ok-verdict.ensures.verdict.0

pub returns-clause-settled : goal.returns-clause-settled
returns-clause-settled g c =
    let s = c.args.board.now in
    let t = c.settle_least.new.self in
    IfOk-weaker c.settle_least.result (IsLeastSettled s t c.in_ok-verdict.verdict) (HasSettledLeast s t)
    (λ b h. settled_least s t c.in_ok-verdict.verdict b c.in-Some.ensures.sound c.settle_least.ensures.sound c.requires.given_out h) c.settle_least.ensures.answer

pub returns-clause-under_way : goal.returns-clause-under_way
returns-clause-under_way g c =
    let p = c.args.prober.now in
    let s = c.args.board.now in
    let t = c.settle_least.new.self in
    IfOk-weaker c.settle_least.result (IsLeastSettled s t c.in_ok-verdict.verdict) (λ _. StaysUnderWay p.geometry p.width s t)
    (λ b h. least_under_way p.geometry p.width s t c.in-Some.key.now c.in_ok-verdict.verdict b c.in-Some.ensures.sound c.in-Some.ensures.value.1 c.in_ok-verdict.ensures.verdict.1 h)
    c.settle_least.ensures.answer
