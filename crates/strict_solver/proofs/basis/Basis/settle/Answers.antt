use Rattle.std.proofs.Common.{◌+◌, refl, arith}
use Rattle.strict_solver.specs.declared.place.Place.TheVariants.{Row}
use Rattle.strict_solver.proofs.Elimination.{from_place, at_place}
use Rattle.strict_solver.proofs.StandingMoves.{ends}
use Rattle.strict_solver.proofs.Settling.{sizes_next, other_sizes, other_sized, over_same, now_stuck, leaves_now, enters_now, moved_now, first_now, within_now}
use Rattle.strict_solver.proofs.basis.Basis.settle.Goals as goal

pub returns-in_default-clause-answer : goal.returns-in_default-clause-answer
returns-in_default-clause-answer c =
    let i = c.loop-move.invariant in
    let over = over_same c.args.self.now.columns c.loop-move.self.columns c.args.folds.now i.sizes.columns c.requires.folds in
    (ends c.loop-move.self c.args.folds.now over i.stands c.in_default.ensures, i.sized)

pub offset_bounds-folds-row : goal.offset_bounds-folds-row
offset_bounds-folds-row c = let a = (from_place c.args.folds.now c.in-Some.row c.in-Some.ensures.fold c.in-Some.ensures.fold c.in-Some.ensures.is).0 in omega arith

pub bounds-folds-row : goal.bounds-folds-row
bounds-folds-row c = (from_place c.args.folds.now c.in-Some.row c.in-Some.ensures.fold c.in-Some.ensures.fold c.in-Some.ensures.is).0

pub write_line-requires-clause-fold : goal.write_line-requires-clause-fold
write_line-requires-clause-fold c =
    let over = over_same c.args.self.now.columns c.loop-move.self.columns c.args.folds.now c.loop-move.invariant.sizes.columns c.requires.folds in
    over.each c.in-Some.row _ (at_place c.args.folds.now c.in-Some.row _ _ (from_place c.args.folds.now c.in-Some.row c.in-Some.ensures.fold c.in-Some.ensures.fold c.in-Some.ensures.is).0 refl)

pub first_to_enter-requires-clause-within : goal.first_to_enter-requires-clause-within
first_to_enter-requires-clause-within c =
    let i = c.loop-move.invariant in
    let over = over_same c.args.self.now.columns c.loop-move.self.columns c.args.folds.now i.sizes.columns c.requires.folds in
    within_now c.loop-move.self c.args.folds.now over i.stands c.in-Some.row _ c.in-Some.ensures c.write_line.new.self c.if-not-write_line.ensures.others c.if-not-write_line.ensures.answer

pub returns-in_default-first_to_enter-clause-answer : goal.returns-in_default-first_to_enter-clause-answer
returns-in_default-first_to_enter-clause-answer c =
    let i = c.loop-move.invariant in
    let over = over_same c.args.self.now.columns c.loop-move.self.columns c.args.folds.now i.sizes.columns c.requires.folds in (
      now_stuck c.loop-move.self c.args.folds.now over i.stands c.in-Some.row _ c.in-Some.ensures c.write_line.new.self c.if-not-write_line.ensures.others c.if-not-write_line.ensures.answer c.in_default-first_to_enter.ensures,
      other_sized c.loop-move.self c.write_line.new.self c.if-not-write_line.ensures.others i.sized,
    )

pub overflow_add-self : goal.overflow_add-self
overflow_add-self c =
    let i = c.loop-move.invariant in
    let over = over_same c.args.self.now.columns c.loop-move.self.columns c.args.folds.now i.sizes.columns c.requires.folds in
    let l = leaves_now c.loop-move.self c.args.folds.now over i.stands c.in-Some.row _ c.in-Some.ensures c.write_line.new.self c.if-not-write_line.ensures.others c.if-not-write_line.ensures.answer in
    let a = (from_place c.write_line.new.self.places.items (c.write_line.new.self.columns + c.in-Some.row) (Row 0) (Row l.0) l.1).0 in
    let k = c.write_line.new.self.places.ok.0 in
    omega arith

pub exchange-requires-clause-first : goal.exchange-requires-clause-first
exchange-requires-clause-first c =
    let i = c.loop-move.invariant in
    let over = over_same c.args.self.now.columns c.loop-move.self.columns c.args.folds.now i.sizes.columns c.requires.folds in
    first_now c.loop-move.self c.args.folds.now over i.stands c.in-Some.row _ c.in-Some.ensures c.write_line.new.self c.if-not-write_line.ensures.others c.if-not-write_line.ensures.answer

pub exchange-requires-clause-leaves : goal.exchange-requires-clause-leaves
exchange-requires-clause-leaves c =
    let i = c.loop-move.invariant in
    let over = over_same c.args.self.now.columns c.loop-move.self.columns c.args.folds.now i.sizes.columns c.requires.folds in
    leaves_now c.loop-move.self c.args.folds.now over i.stands c.in-Some.row _ c.in-Some.ensures c.write_line.new.self c.if-not-write_line.ensures.others c.if-not-write_line.ensures.answer

pub exchange-requires-clause-enters : goal.exchange-requires-clause-enters
exchange-requires-clause-enters c =
    let i = c.loop-move.invariant in
    let over = over_same c.args.self.now.columns c.loop-move.self.columns c.args.folds.now i.sizes.columns c.requires.folds in
    enters_now c.loop-move.self c.args.folds.now over i.stands c.in-Some.row _ c.in-Some.ensures c.write_line.new.self c.if-not-write_line.ensures.others c.if-not-write_line.ensures.answer c.in-Some-first_to_enter.entering c.in-Some-first_to_enter.ensures

pub loop-move-preserved : goal.loop-move-preserved
loop-move-preserved c =
    let i = c.loop-move.invariant in
    let over = over_same c.args.self.now.columns c.loop-move.self.columns c.args.folds.now i.sizes.columns c.requires.folds in
    let e = c.if-not-exchange.ensures in
    let o = c.if-not-write_line.ensures.others in
    record {
      sizes = sizes_next c.args.self.now c.write_line.new.self c.exchange.new.self (sizes_next c.args.self.now c.loop-move.self c.write_line.new.self i.sizes (other_sizes c.loop-move.self c.write_line.new.self o)) e.sizes;
      sized = e.answer.sized;
      stands = moved_now c.loop-move.self c.args.folds.now over i.stands c.in-Some.row _ c.in-Some.ensures c.write_line.new.self o c.if-not-write_line.ensures.answer c.in-Some-first_to_enter.entering c.in-Some-first_to_enter.ensures c.exchange.new.self e.answer;
    }
