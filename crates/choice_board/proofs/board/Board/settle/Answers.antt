use Rattle.std.proofs.Common.{◌≡◌, sym, ap, subst, ℕ, ◌≤◌, List, [], arith}
use Rattle.std.specs.Prelude.{Contains}
use Rattle.choice_board.specs.Settling.{IsSettled, totals_stale}
use Rattle.choice_board.specs.States.{State}
use Rattle.choice_board.specs.Verdicts.{IsTrueOf}
use Rattle.choice_board.specs.Views.{state_of}
use Rattle.choice_board.proofs.CloseLemmas.{at_place, open_is_key}
use Rattle.ntfe_model.specs.Keys.{IsKey, last_number}
use Rattle.choice_board.proofs.board.Board.settle.Goals as goal

-- the key is open, so it is a key
own : (c : goal.After-opened-arg-1) → IsKey c.args.self.now.geometry c.args.key.now
own c =
    subst (λ (s : State). IsKey s.geometry c.args.key.now) c.self.view_is
    (let s = state_of c.self.inside.geometry c.self.inside.last c.self.inside.keys.items c.self.inside.recorded.items c.self.inside.pruned.items c.self.inside.stop c.self.inside.closed c.self.inside.totals in
    open_is_key s c.args.key.now c.self.invariant
    (subst (λ (x : State). Contains x.open_keys c.args.key.now) (sym c.self.view_is) (at_place c.args.self.now.open_keys c.args.key.now c.in-Some.place c.in-Some.ensures)))

pub opened-requires-clause-some : goal.opened-requires-clause-some
opened-requires-clause-some c = let k = own c in k.some

pub opened-requires-clause-small : goal.opened-requires-clause-small
opened-requires-clause-small c =
    let k = own c in
    let l : last_number c.args.key.now ≤ 1048576 = k.last in
    omega arith

pub close_at-requires-clause-is_true : goal.close_at-requires-clause-is_true
close_at-requires-clause-is_true c =
    let P : List ℕ → Type 0 = λ k. IsTrueOf c.args.self.now.geometry k c.args.verdict in subst P (sym (c.in-Some.ensures.1 [])) c.requires

pub returns-clause-answer : goal.returns-clause-answer
returns-clause-answer c =
    let P : List ℕ → Type 0 = λ k. IsSettled c.args.self.now c.close_at.new.self k c.args.verdict in
    (at_place c.args.self.now.open_keys c.args.key.now c.in-Some.place c.in-Some.ensures, subst P (c.in-Some.ensures.1 []) c.in_ok-close_at.ensures.settled, c.in_ok-opened.ensures)

pub returns-in_default-clause-answer : goal.returns-in_default-clause-answer
returns-in_default-clause-answer c =
    let s = state_of c.self.inside.geometry c.self.inside.last c.self.inside.keys.items c.self.inside.recorded.items c.self.inside.pruned.items c.self.inside.stop c.self.inside.closed c.self.inside.totals in
    let P : State → Type 0 = λ x. record s { totals = c.with_stale-self-inside.result } ≡ record x { totals = totals_stale x.totals } in
    (c.in_default.ensures, subst P c.self.view_is (ap (λ t. record s { totals = t }) c.with_stale-self-inside.ensures))
