use Rattle.std.proofs.Common.{◌∙◌, refl, sym, ap, subst, ◌≤◌, length, arith}
use Rattle.choice_board.specs.States.{State, IsSound}
use Rattle.choice_board.specs.Telling.{IsHandedOut, IsWaiting, outcome_told}
use Rattle.choice_board.specs.Views.{state_of}
use Rattle.choice_board.specs.declared.record.Stop.TheVariants.{Wide as StopWide, Far as StopFar}
use Rattle.choice_board.proofs.OrderLemmas.{waits_otherwise}
use Rattle.choice_board.proofs.OutcomeLemmas.{HasEnd, has_end, stopped_waits, class_state, class_state_sound, class_handed, stop_state, wide_state_sound, wide_handed, far_state_sound, far_handed, record_few, told_class, told_wide, told_far}
use Rattle.choice_board.proofs.board.Board.ready.Goals.{then-is_some-via-then-is_some, then-is_some-via-else-is_some+then-not-comes_first}
use Rattle.choice_board.proofs.board.Board.ready.Goals as goal

pub returns-then-is_some-clause-answer : goal.returns-then-is_some-clause-answer
returns-then-is_some-clause-answer c =
    let s = state_of c.self.inside.geometry c.self.inside.last c.self.inside.keys.items c.self.inside.recorded.items c.self.inside.pruned.items c.self.inside.stop c.self.inside.closed c.self.inside.totals in
    let sound : IsSound s = c.self.invariant in (
      refl,
      subst IsWaiting c.self.view_is
          (elim c.then-is_some.branch [
            | then-is_some-via-then-is_some w ↦ stopped_waits s c.is_some.result c.is_some.ensures w.if-is_some.true
            | then-is_some-via-else-is_some+then-not-comes_first w ↦
                waits_otherwise s sound (w.if-not-comes_first.ensures.when_false refl)
          ]),
    )

pub outcome_of-outcome-requires-clause-few : goal.outcome_of-outcome-requires-clause-few
outcome_of-outcome-requires-clause-few c =
    let s = state_of c.self.inside.geometry c.self.inside.last c.self.inside.keys.items c.self.inside.recorded.items c.self.inside.pruned.items c.self.inside.stop c.self.inside.closed c.self.inside.totals in
    let r = c.in_ok-key.field-0 in
    let e : HasEnd s c.pop_back.new.self.items r =
    has_end s c.pop_back.new.self.items r c.is_some.result c.is_some.ensures c.if-is_some.false
    (c.if-not-comes_first.ensures.when_true refl) c.in_ok-key.ensures.items in
    let few : length r.key ≤ 5000 = record_few s c.pop_back.new.self.items r c.self.invariant e in
    omega arith

pub invariant_of-self-in-Class : goal.invariant_of-self-in-Class
invariant_of-self-in-Class c =
    let s = state_of c.self.inside.geometry c.self.inside.last c.self.inside.keys.items c.self.inside.recorded.items c.self.inside.pruned.items c.self.inside.stop c.self.inside.closed c.self.inside.totals in
    let r = c.in_ok-key.field-0 in
    let e : HasEnd s c.pop_back.new.self.items r =
    has_end s c.pop_back.new.self.items r c.is_some.result c.is_some.ensures c.if-is_some.false
    (c.if-not-comes_first.ensures.when_true refl) c.in_ok-key.ensures.items in
    let f = told_class r.key r.found c.outcome_of-outcome.result c.in-Class.field-0 c.in-Class.field-1 c.outcome_of-outcome.ensures c.in-Class.is in
    class_state_sound s c.pop_back.new.self.items r c.choice_from.result c.in-Class.field-0 c.in-Class.field-1 c.with_written-self-inside.result c.self.invariant e c.choice_from.ensures f

pub returns-in-Class-clause-sound : goal.returns-in-Class-clause-sound
returns-in-Class-clause-sound c =
    let s = state_of c.self.inside.geometry c.self.inside.last c.self.inside.keys.items c.self.inside.recorded.items c.self.inside.pruned.items c.self.inside.stop c.self.inside.closed c.self.inside.totals in
    let r = c.in_ok-key.field-0 in
    let e : HasEnd s c.pop_back.new.self.items r =
    has_end s c.pop_back.new.self.items r c.is_some.result c.is_some.ensures c.if-is_some.false
    (c.if-not-comes_first.ensures.when_true refl) c.in_ok-key.ensures.items in
    let f = told_class r.key r.found c.outcome_of-outcome.result c.in-Class.field-0 c.in-Class.field-1 c.outcome_of-outcome.ensures c.in-Class.is in
    class_state_sound s c.pop_back.new.self.items r c.choice_from.result c.in-Class.field-0 c.in-Class.field-1 c.with_written-self-inside.result c.self.invariant e c.choice_from.ensures f

pub returns-in-Class-clause-answer : goal.returns-in-Class-clause-answer
returns-in-Class-clause-answer c =
    let s = state_of c.self.inside.geometry c.self.inside.last c.self.inside.keys.items c.self.inside.recorded.items c.self.inside.pruned.items c.self.inside.stop c.self.inside.closed c.self.inside.totals in
    let r = c.in_ok-key.field-0 in
    let e : HasEnd s c.pop_back.new.self.items r =
    has_end s c.pop_back.new.self.items r c.is_some.result c.is_some.ensures c.if-is_some.false
    (c.if-not-comes_first.ensures.when_true refl) c.in_ok-key.ensures.items in
    let f = told_class r.key r.found c.outcome_of-outcome.result c.in-Class.field-0 c.in-Class.field-1 c.outcome_of-outcome.ensures c.in-Class.is in
    let t = class_state s c.pop_back.new.self.items c.choice_from.result c.with_written-self-inside.result in
    let P : State → Type 0 = λ x. IsHandedOut x t c.outcome_of-outcome.result in
    subst P c.self.view_is (subst (IsHandedOut s t) (sym c.in-Class.is) (class_handed s c.pop_back.new.self.items r c.choice_from.result c.in-Class.field-0 c.in-Class.field-1 c.with_written-self-inside.result c.self.invariant e c.choice_from.ensures f c.with_written-self-inside.ensures))

pub invariant_of-self-in-Wide : goal.invariant_of-self-in-Wide
invariant_of-self-in-Wide c =
    let s = state_of c.self.inside.geometry c.self.inside.last c.self.inside.keys.items c.self.inside.recorded.items c.self.inside.pruned.items c.self.inside.stop c.self.inside.closed c.self.inside.totals in
    let r = c.in_ok-key.field-0 in
    let e : HasEnd s c.pop_back.new.self.items r =
    has_end s c.pop_back.new.self.items r c.is_some.result c.is_some.ensures c.if-is_some.false
    (c.if-not-comes_first.ensures.when_true refl) c.in_ok-key.ensures.items in
    let f = told_wide r.key r.found c.outcome_of-outcome.result c.in-Wide.choice c.in-Wide.step c.in-Wide.number c.outcome_of-outcome.ensures c.in-Wide.is in
    wide_state_sound s c.pop_back.new.self.items r c.in-Wide.choice c.in-Wide.step c.in-Wide.number c.self.invariant e f

pub returns-in-Wide-clause-sound : goal.returns-in-Wide-clause-sound
returns-in-Wide-clause-sound c =
    let s = state_of c.self.inside.geometry c.self.inside.last c.self.inside.keys.items c.self.inside.recorded.items c.self.inside.pruned.items c.self.inside.stop c.self.inside.closed c.self.inside.totals in
    let r = c.in_ok-key.field-0 in
    let e : HasEnd s c.pop_back.new.self.items r =
    has_end s c.pop_back.new.self.items r c.is_some.result c.is_some.ensures c.if-is_some.false
    (c.if-not-comes_first.ensures.when_true refl) c.in_ok-key.ensures.items in
    let f = told_wide r.key r.found c.outcome_of-outcome.result c.in-Wide.choice c.in-Wide.step c.in-Wide.number c.outcome_of-outcome.ensures c.in-Wide.is in
    wide_state_sound s c.pop_back.new.self.items r c.in-Wide.choice c.in-Wide.step c.in-Wide.number c.self.invariant e f

pub returns-in-Wide-clause-answer : goal.returns-in-Wide-clause-answer
returns-in-Wide-clause-answer c =
    let s = state_of c.self.inside.geometry c.self.inside.last c.self.inside.keys.items c.self.inside.recorded.items c.self.inside.pruned.items c.self.inside.stop c.self.inside.closed c.self.inside.totals in
    let r = c.in_ok-key.field-0 in
    let e : HasEnd s c.pop_back.new.self.items r =
    has_end s c.pop_back.new.self.items r c.is_some.result c.is_some.ensures c.if-is_some.false
    (c.if-not-comes_first.ensures.when_true refl) c.in_ok-key.ensures.items in
    let f = told_wide r.key r.found c.outcome_of-outcome.result c.in-Wide.choice c.in-Wide.step c.in-Wide.number c.outcome_of-outcome.ensures c.in-Wide.is in
    let t = stop_state s c.pop_back.new.self.items (StopWide r.key) in
    let P : State → Type 0 = λ x. IsHandedOut x t c.outcome_of-outcome.result in
    subst P c.self.view_is (subst (IsHandedOut s t) (sym c.in-Wide.is) (wide_handed s c.pop_back.new.self.items r c.in-Wide.choice c.in-Wide.step c.in-Wide.number c.self.invariant e f))

pub invariant_of-self-in-Far : goal.invariant_of-self-in-Far
invariant_of-self-in-Far c =
    let s = state_of c.self.inside.geometry c.self.inside.last c.self.inside.keys.items c.self.inside.recorded.items c.self.inside.pruned.items c.self.inside.stop c.self.inside.closed c.self.inside.totals in
    let r = c.in_ok-key.field-0 in
    let e : HasEnd s c.pop_back.new.self.items r =
    has_end s c.pop_back.new.self.items r c.is_some.result c.is_some.ensures c.if-is_some.false
    (c.if-not-comes_first.ensures.when_true refl) c.in_ok-key.ensures.items in
    let f = told_far r.key r.found c.outcome_of-outcome.result c.in-Far.face c.outcome_of-outcome.ensures c.in-Far.is in
    far_state_sound s c.pop_back.new.self.items r c.self.invariant e f

pub returns-in-Far-clause-sound : goal.returns-in-Far-clause-sound
returns-in-Far-clause-sound c =
    let s = state_of c.self.inside.geometry c.self.inside.last c.self.inside.keys.items c.self.inside.recorded.items c.self.inside.pruned.items c.self.inside.stop c.self.inside.closed c.self.inside.totals in
    let r = c.in_ok-key.field-0 in
    let e : HasEnd s c.pop_back.new.self.items r =
    has_end s c.pop_back.new.self.items r c.is_some.result c.is_some.ensures c.if-is_some.false
    (c.if-not-comes_first.ensures.when_true refl) c.in_ok-key.ensures.items in
    let f = told_far r.key r.found c.outcome_of-outcome.result c.in-Far.face c.outcome_of-outcome.ensures c.in-Far.is in
    far_state_sound s c.pop_back.new.self.items r c.self.invariant e f

pub returns-in-Far-clause-answer : goal.returns-in-Far-clause-answer
returns-in-Far-clause-answer c =
    let s = state_of c.self.inside.geometry c.self.inside.last c.self.inside.keys.items c.self.inside.recorded.items c.self.inside.pruned.items c.self.inside.stop c.self.inside.closed c.self.inside.totals in
    let r = c.in_ok-key.field-0 in
    let e : HasEnd s c.pop_back.new.self.items r =
    has_end s c.pop_back.new.self.items r c.is_some.result c.is_some.ensures c.if-is_some.false
    (c.if-not-comes_first.ensures.when_true refl) c.in_ok-key.ensures.items in
    let f = told_far r.key r.found c.outcome_of-outcome.result c.in-Far.face c.outcome_of-outcome.ensures c.in-Far.is in
    let t = stop_state s c.pop_back.new.self.items (StopFar r.key) in
    let P : State → Type 0 = λ x. IsHandedOut x t c.outcome_of-outcome.result in
    subst P c.self.view_is (subst (IsHandedOut s t) (sym (c.outcome_of-outcome.ensures ∙ ap (outcome_told r.key) f)) (far_handed s c.pop_back.new.self.items r r.key c.self.invariant e f refl))
