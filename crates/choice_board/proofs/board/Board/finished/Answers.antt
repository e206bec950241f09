use Rattle.std.proofs.Common.{subst}
use Rattle.choice_board.specs.States.{State}
use Rattle.choice_board.specs.Telling.{AreAllBlocked}
use Rattle.choice_board.specs.Views.{state_of}
use Rattle.choice_board.proofs.RowLemmas.{empty_row}
use Rattle.choice_board.proofs.TellLemmas.{all_blocked}
use Rattle.choice_board.proofs.board.Board.finished.Goals as goal
use Rattle.std.specs.Prelude.{◌≡◌, None}

pub returns-then-is_empty-clause-all : goal.returns-then-is_empty-clause-all
returns-then-is_empty-clause-all c = λ t.
    let s = state_of c.self.inside.geometry c.self.inside.last c.self.inside.keys.items c.self.inside.recorded.items c.self.inside.pruned.items c.self.inside.stop c.self.inside.closed c.self.inside.totals in
    subst (λ (x : State). x.stop ≡ None → AreAllBlocked x) c.self.view_is
    (all_blocked s c.self.invariant (empty_row c.self.inside.keys.items c.self.inside.keys.len c.is_empty.result c.self.inside.keys.ok.0 c.is_empty.ensures c.if-is_empty.true)
    (empty_row c.self.inside.recorded.items c.self.inside.recorded.len c.is_empty-then-is_empty.result c.self.inside.recorded.ok.0 c.is_empty-then-is_empty.ensures t))
