use Rattle.std.proofs.Common.{◌≡◌, ◌∙◌, sym, ap, subst, ◌-◌, ◌<◌, [], length, get_or, arith}
use Rattle.choice_board.specs.States.{State}
use Rattle.choice_board.specs.Telling.{IsLeastOpen}
use Rattle.choice_board.specs.Views.{state_of}
use Rattle.choice_board.proofs.LeastLemmas.{least_there}
use Rattle.choice_board.proofs.board.Board.settle_least.Goals as goal

pub close_at-requires-clause-is_true : goal.close_at-requires-clause-is_true
close_at-requires-clause-is_true c =
    let s = state_of c.self.inside.geometry c.self.inside.last c.self.inside.keys.items c.self.inside.recorded.items c.self.inside.pruned.items c.self.inside.stop c.self.inside.closed c.self.inside.totals in
    let P : State → Type 0 = λ t. IsLeastOpen t (get_or t.open_keys (c.len-place.result - 1) []) in
    let n : c.len-place.result ≡ length c.self.inside.keys.items = omega arith in
    let some : 0 < length c.self.inside.keys.items = grind arith in
    c.requires (get_or c.args.self.now.open_keys (c.len-place.result - 1) []) (subst P c.self.view_is (least_there s c.len-place.result c.self.invariant n some))

pub returns-clause-answer : goal.returns-clause-answer
returns-clause-answer c =
    let s = state_of c.self.inside.geometry c.self.inside.last c.self.inside.keys.items c.self.inside.recorded.items c.self.inside.pruned.items c.self.inside.stop c.self.inside.closed c.self.inside.totals in
    let P : State → Type 0 = λ t. IsLeastOpen t (get_or t.open_keys (c.len-place.result - 1) []) in
    let n : c.len-place.result ≡ length c.self.inside.keys.items = omega arith in
    let some : 0 < length c.self.inside.keys.items = grind arith in (
      sym (ap (λ t. t.closed) c.self.view_is) ∙ c.if-self.false,
      (
        get_or c.args.self.now.open_keys (c.len-place.result - 1) [],
        subst P c.self.view_is (least_there s c.len-place.result c.self.invariant n some),
        c.in_ok-close_at.ensures.settled,
      ),
    )
