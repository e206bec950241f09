use Rattle.std.proofs.Common.{◌≡◌, subst, ◌⊎◌, [], true, false}
use Rattle.std.specs.Prelude.{MatchOption}
use Rattle.choice_board.specs.States.{State}
use Rattle.choice_board.specs.Telling.{IsLeastOpen}
use Rattle.choice_board.specs.Views.{state_of}
use Rattle.choice_board.proofs.LeastLemmas.{last_answers}
use Rattle.choice_board.proofs.board.Board.least.Goals as goal

pub returns-clause-value : goal.returns-clause-value
returns-clause-value c =
    let s = state_of c.self.inside.geometry c.self.inside.last c.self.inside.keys.items c.self.inside.recorded.items c.self.inside.pruned.items c.self.inside.stop c.self.inside.closed c.self.inside.totals in
    subst (λ (x : State). MatchOption c.back.result ((x.closed ≡ true) ⊎ (x.open_keys ≡ [])) (λ k. (x.closed ≡ false) × IsLeastOpen x k.now)) c.self.view_is
    (last_answers s c.self.inside.keys.len c.self.invariant c.if-self.false c.self.inside.keys.ok.0 c.back.result c.back.ensures.item.3)
