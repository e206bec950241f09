use Rattle.std.proofs.Common.{refl, sym, subst, List}
use Rattle.choice_board.specs.declared.outcome.Outcome.{Outcome}
use Rattle.steal_workers.specs.Shared.{AreHandedOut}
use Rattle.steal_workers.proofs.Rows.{handed_more}
use Rattle.steal_workers.proofs.shared_board.fill.Goals as goal

pub loop-board-init : goal.loop-board-init
loop-board-init c = subst (λ (os : List Outcome). AreHandedOut c.args.board.now c.args.board.now os) (sym c.requires) refl

pub loop-board-preserved : goal.loop-board-preserved
loop-board-preserved c =
    subst (λ (os : List Outcome). AreHandedOut c.args.board.now c.ready.new.self os) (sym c.push.ensures)
    (handed_more c.args.board.now c.loop-board.board c.ready.new.self c.loop-board.row c.in-Some.outcome c.loop-board.invariant c.in-Some.ensures.answer c.in-Some.ensures.sound)
