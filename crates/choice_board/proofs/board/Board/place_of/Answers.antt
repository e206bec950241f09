use Rattle.std.proofs.Common.{sym, subst}
use Rattle.std.specs.Prelude.{MatchOption, Contains}
use Rattle.choice_board.specs.Rows.{IsFoundAt}
use Rattle.choice_board.specs.States.{State}
use Rattle.choice_board.specs.Views.{state_of}
use Rattle.choice_board.proofs.CloseLemmas.{found_place}
use Rattle.choice_board.proofs.board.Board.place_of.Goals as goal

pub returns : goal.returns
returns c =
    let s = state_of c.self.inside.geometry c.self.inside.last c.self.inside.keys.items c.self.inside.recorded.items c.self.inside.pruned.items c.self.inside.stop c.self.inside.closed c.self.inside.totals in
    let P : State → Type 0 = λ x. MatchOption c.ok.result (¬ (Contains x.open_keys c.args.key.now)) (λ i. IsFoundAt (λ k. k) x.open_keys c.args.key.now i) in
    subst P c.self.view_is (subst (λ o. MatchOption o (¬ (Contains s.open_keys c.args.key.now)) (λ i. IsFoundAt (λ k. k) s.open_keys c.args.key.now i)) (sym c.ok.ensures.value)
    (found_place s c.args.key.now c.numbers.result.now c.numbers.ensures c.find.result c.find.ensures))
