use Rattle.std.proofs.Common.{◌≡◌, sym, ap, subst, ℕ, List, []}
use Rattle.choice_board.specs.Settling.{IsSettled, totals_stale}
use Rattle.choice_board.specs.States.{State}
use Rattle.choice_board.specs.Verdicts.{IsTrueOf}
use Rattle.choice_board.specs.Views.{state_of}
use Rattle.choice_board.proofs.CloseLemmas.{at_place}
use Rattle.choice_board.proofs.board.Board.settle_key.Goals as goal

pub close_at-requires-clause-is_true : goal.close_at-requires-clause-is_true
close_at-requires-clause-is_true c =
    let P : List ℕ → Type 0 = λ k. IsTrueOf c.args.self.now.geometry k c.args.verdict in subst P (sym (c.in-Some.ensures.1 [])) c.requires

pub returns-clause-answer : goal.returns-clause-answer
returns-clause-answer c =
    let P : List ℕ → Type 0 = λ k. IsSettled c.args.self.now c.close_at.new.self k c.args.verdict in
    (at_place c.args.self.now.open_keys c.args.key.now c.in-Some.place c.in-Some.ensures, subst P (c.in-Some.ensures.1 []) c.in_ok-close_at.ensures.settled)

pub returns-in_default-clause-answer : goal.returns-in_default-clause-answer
returns-in_default-clause-answer c =
    let s = state_of c.self.inside.geometry c.self.inside.last c.self.inside.keys.items c.self.inside.recorded.items c.self.inside.pruned.items c.self.inside.stop c.self.inside.closed c.self.inside.totals in
    let P : State → Type 0 = λ x. record s { totals = c.with_stale-self-inside.result } ≡ record x { totals = totals_stale x.totals } in
    (c.in_default.ensures, subst P c.self.view_is (ap (λ t. record s { totals = t }) c.with_stale-self-inside.ensures))
