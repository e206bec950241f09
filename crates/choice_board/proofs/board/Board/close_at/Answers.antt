use Rattle.std.proofs.Common.{◌≡◌, ◌∙◌, sym, ap, subst, ℕ, ◌<◌, List, [], ◌++◌, length, get_or}
use Rattle.std.specs.List.{remove}
use Rattle.choice_board.specs.Making.{pruned_made}
use Rattle.choice_board.specs.Settling.{IsSettled}
use Rattle.choice_board.specs.States.{State}
use Rattle.choice_board.specs.Verdicts.{IsTrueOf}
use Rattle.choice_board.specs.Views.{state_of}
use Rattle.choice_board.proofs.CloseLemmas.{at_place, found_there, IsClosed, closed_is_settled, closed_sound, own_is_key, fresh_record, removed_falls, has_through, records_through}
use Rattle.choice_board.proofs.board.Board.close_at.Goals as goal

pub insert_new-requires-clause-falling : goal.insert_new-requires-clause-falling
insert_new-requires-clause-falling c =
    let s = state_of c.self.inside.geometry c.self.inside.last c.self.inside.keys.items c.self.inside.recorded.items c.self.inside.pruned.items c.self.inside.stop c.self.inside.closed c.self.inside.totals in
    let inside = subst (λ (t : State). c.args.place < length t.open_keys) (sym c.self.view_is) c.requires.place in
    let p = found_there c.self.inside.keys.items c.index-key.result.now c.args.place inside c.index-key.ensures in
    removed_falls s c.make_room.new.keys.items c.remove_at-own.new.row.items c.index-key.result.now c.args.place c.self.invariant p c.in_ok-make_room.ensures.keys c.remove_at-own.ensures.items

pub put-requires-clause-fresh : goal.put-requires-clause-fresh
put-requires-clause-fresh c =
    let s = state_of c.self.inside.geometry c.self.inside.last c.self.inside.keys.items c.self.inside.recorded.items c.self.inside.pruned.items c.self.inside.stop c.self.inside.closed c.self.inside.totals in
    let inside = subst (λ (t : State). c.args.place < length t.open_keys) (sym c.self.view_is) c.requires.place in
    let key = c.index-key.result.now in
    let p = found_there c.self.inside.keys.items key c.args.place inside c.index-key.ensures in
    let own = own_is_key c.self.inside.keys.items c.make_room.new.keys.items key c.remove_at-own.result c.args.place c.in_ok-make_room.ensures.keys p c.remove_at-own.ensures.value in
    fresh_record s key c.remove_at-own.result c.make_room.new.recorded.items c.self.invariant (at_place c.self.inside.keys.items key c.args.place p) own c.in_ok-make_room.ensures.recorded

-- the board as it was
abbrev was : goal.After-totals-1 → State
was c = state_of c.self.inside.geometry c.self.inside.last c.self.inside.keys.items c.self.inside.recorded.items c.self.inside.pruned.items c.self.inside.stop c.self.inside.closed c.self.inside.totals

is_inside : (c : goal.After-totals-1) → c.args.place < length c.self.inside.keys.items
is_inside c = subst (λ (s : State). c.args.place < length s.open_keys) (sym c.self.view_is) c.requires.place

closed : (c : goal.After-totals-1) → IsClosed (was c) c.index-key.result.now c.args.verdict c.args.place c.in_ok-made.made c.put.new.keys.items c.put.new.recorded.items c.put.new.pruned.items c.with_taken-totals.result
closed c =
    let key = c.index-key.result.now in
    let p = found_there c.self.inside.keys.items key c.args.place (is_inside c) c.index-key.ensures in
    let own = own_is_key c.self.inside.keys.items c.make_room.new.keys.items key c.remove_at-own.result c.args.place c.in_ok-make_room.ensures.keys p c.remove_at-own.ensures.value in
    let removed : c.remove_at-own.new.row.items ≡ remove c.self.inside.keys.items c.args.place = c.remove_at-own.ensures.items ∙ ap (λ xs. remove xs c.args.place) c.in_ok-make_room.ensures.keys in
    record {
      found = p;
      falling = c.put.ensures.keys_falling;
      has = has_through c.remove_at-own.new.row.items (remove c.self.inside.keys.items c.args.place) c.insert_new.new.row.items c.put.new.keys.items c.in_ok-new.new c.remove_at-own.result key c.args.verdict c.in_ok-made.made
          removed c.in_ok-new.ensures own c.in_ok-made.ensures.raised c.insert_new.ensures.items c.put.ensures.keys;
      records_falling = c.put.ensures.falling;
      records_has = records_through c.make_room.new.recorded.items c.self.inside.recorded.items c.put.new.recorded.items c.remove_at-own.result key c.in_ok-made.made c.in_ok-make_room.ensures.recorded own c.put.ensures.recorded;
      recorded_made = c.in_ok-made.ensures.recorded;
      pruned_is = c.put.ensures.pruned ∙ ap (λ xs. xs ++ pruned_made c.remove_at-own.result c.in_ok-made.made) c.in_ok-make_room.ensures.pruned
          ∙ ap (λ k. c.self.inside.pruned.items ++ pruned_made k c.in_ok-made.made) own;
      pruned_made_is = c.in_ok-made.ensures.pruned;
      totals_are = c.with_taken-totals.ensures;
    }

-- the key, as the contract names it
named : (c : goal.After-totals-1) → get_or c.self.inside.keys.items c.args.place [] ≡ c.index-key.result.now
named c = (closed c).found.1 []

true_of : (c : goal.After-totals-1) → IsTrueOf c.self.inside.geometry c.index-key.result.now c.args.verdict
true_of c =
    let P : State → Type 0 = λ s. IsTrueOf s.geometry (get_or s.open_keys c.args.place []) c.args.verdict in
    let Q : List ℕ → Type 0 = λ k. IsTrueOf c.self.inside.geometry k c.args.verdict in
    subst Q (named c) (subst P (sym c.self.view_is) c.requires.is_true)

pub invariant_of-self-2 : goal.invariant_of-self-2
invariant_of-self-2 c =
    closed_sound (was c) c.index-key.result.now c.args.verdict c.args.place c.in_ok-made.made c.put.new.keys.items c.put.new.recorded.items c.put.new.pruned.items c.with_taken-totals.result
    c.self.invariant (true_of c) (closed c)

pub returns-clause-sound : goal.returns-clause-sound
returns-clause-sound c =
    closed_sound (was c) c.index-key.result.now c.args.verdict c.args.place c.in_ok-made.made c.put.new.keys.items c.put.new.recorded.items c.put.new.pruned.items c.with_taken-totals.result
    c.self.invariant (true_of c) (closed c)

pub returns-clause-settled : goal.returns-clause-settled
returns-clause-settled c =
    let t = state_of c.self.inside.geometry c.self.inside.last c.put.new.keys.items c.put.new.recorded.items c.put.new.pruned.items c.self.inside.stop c.self.inside.closed c.with_taken-totals.result in
    let P : State → Type 0 = λ s. IsSettled s t (get_or s.open_keys c.args.place []) c.args.verdict in
    let Q : List ℕ → Type 0 = λ k. IsSettled (was c) t k c.args.verdict in
    subst P c.self.view_is (subst Q (sym (named c)) (
    closed_is_settled (was c) c.index-key.result.now c.args.verdict c.args.place c.in_ok-made.made c.put.new.keys.items c.put.new.recorded.items c.put.new.pruned.items c.with_taken-totals.result c.self.invariant (closed c)
    ))
