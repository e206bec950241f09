use Rattle.std.proofs.Common.{refl, sym, ◌∙◌, subst, arith, inr}
use Rattle.std.proofs.lemmas.Result.{err_from_is_err_and}
use Rattle.choice_board.specs.Telling.{IsWaiting}
use Rattle.steal_workers.specs.Listings.{Listed, HasServed}
use Rattle.steal_workers.proofs.HandedOut.{level, next_outcome, class_abreast, moved_listed, fewer_self, fewer_then}
use Rattle.steal_workers.proofs.alone.write_ready.Goals as goal

pub loop-board-init : goal.loop-board-init
loop-board-init g c = (λ earlier h. h, c.requires.abreast, fewer_self _, refl, (let n = g.K.Sink.faults c.args.out.now in omega arith))

pub write-requires-clause-next : goal.write-requires-clause-next
write-requires-clause-next g c = next_outcome c.loop-board.writer.listed c.loop-board.writer.last c.loop-board.board c.ready.new.self (level c.loop-board.writer c.loop-board.board c.loop-board.invariant.1) c.in-Some.outcome c.in-Some.ensures.answer

pub loop-board-smaller : goal.loop-board-smaller
loop-board-smaller g c =
    (class_abreast c.loop-board.writer c.loop-board.board c.ready.new.self c.loop-board.invariant.1 c.write.new.self c.in-Some.ensures.sound c.in-Some.outcome c.in-Some.ensures.answer c.in_ok-write.ensures.moved).1

pub loop-board-preserved : goal.loop-board-preserved
loop-board-preserved g c =
    let i = c.loop-board.invariant in
    let k = class_abreast c.loop-board.writer c.loop-board.board c.ready.new.self i.1 c.write.new.self c.in-Some.ensures.sound c.in-Some.outcome c.in-Some.ensures.answer c.in_ok-write.ensures.moved in
    (λ earlier h. c.in_ok-write.ensures.on earlier (i.0 earlier h), k.0, fewer_then _ _ _ i.2 k.2, moved_listed c.loop-board.writer c.write.new.self c.in-Some.outcome c.in_ok-write.ensures.moved ∙ i.3, (let p = i.4 in let q = c.write.ensures.later in omega (arith, p, q)))

pub returns-in_default-clause-done : goal.returns-in_default-clause-done
returns-in_default-clause-done g c = inr (subst IsWaiting (sym c.in_default.ensures.answer.0) c.in_default.ensures.answer.1)

pub returns-in_err-write-clause-ends : goal.returns-in_err-write-clause-ends
returns-in_err-write-clause-ends g c =
    let p = err_from_is_err_and c.from_residual.result c.from_residual.ensures.1 in
    let i = c.loop-board.invariant in
    rw (p.1, p.2)
    (λ earlier h. subst (λ (l : Listed). HasServed l (record { before = earlier; after = g.K.Sink.taken c.write.new.out }) c.in_err-write.field-0.0) i.3 (c.in_err-write.ensures.ends earlier (i.0 earlier h)))
