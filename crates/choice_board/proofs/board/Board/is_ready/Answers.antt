use Rattle.std.proofs.Common.{subst}
use Rattle.std.specs.Prelude.{MatchBool}
use Rattle.choice_board.specs.States.{State}
use Rattle.choice_board.specs.Telling.{HasNext, IsWaiting}
use Rattle.choice_board.specs.Views.{state_of}
use Rattle.choice_board.proofs.OutcomeLemmas.{none_from_test, stopped_waits, tells_ready}
use Rattle.choice_board.proofs.board.Board.is_ready.Goals as goal

pub returns-then-is_some-clause-answer : goal.returns-then-is_some-clause-answer
returns-then-is_some-clause-answer c =
    let s = state_of c.self.inside.geometry c.self.inside.last c.self.inside.keys.items c.self.inside.recorded.items c.self.inside.pruned.items c.self.inside.stop c.self.inside.closed c.self.inside.totals in
    subst IsWaiting c.self.view_is (stopped_waits s c.is_some.result c.is_some.ensures c.if-is_some.true)

pub returns-clause-answer : goal.returns-clause-answer
returns-clause-answer c =
    let s = state_of c.self.inside.geometry c.self.inside.last c.self.inside.keys.items c.self.inside.recorded.items c.self.inside.pruned.items c.self.inside.stop c.self.inside.closed c.self.inside.totals in
    subst (λ (x : State). MatchBool c.comes_first.result (HasNext x) (IsWaiting x)) c.self.view_is
    (tells_ready s c.self.invariant (none_from_test s.stop c.is_some.result c.is_some.ensures c.if-is_some.false) c.comes_first.result
    c.comes_first.ensures.when_true c.comes_first.ensures.when_false)
