use Rattle.std.proofs.Common.{subst, sym}
use Rattle.choice_board.specs.Settling.{IsKeySettled}
use Rattle.steal_workers.specs.Probing.{IsVerdictOn}
use Rattle.steal_workers.specs.Shared.{Shared}
use Rattle.steal_workers.proofs.SharedBoards.{stale_shared, taken_shared}
use Rattle.steal_workers.proofs.shared_board.SharedBoard.settle.Goals as goal

pub invariant_of-self-then-not-branch : goal.invariant_of-self-then-not-branch
invariant_of-self-then-not-branch g c =
    stale_shared (record { board = c.self.inside.board; width = c.self.inside.width; start = c.self.inside.start; booked = c.self.inside.book.total }) c.settle_key.new.self c.args.key.now c.args.verdict c.self.invariant
    c.in_ok-settle_key.ensures.sound (subst (λ (x : Shared). IsVerdictOn x.board.geometry x.width c.args.key.now c.args.verdict) (sym c.self.view_is) c.requires.verdict)
    (subst (IsKeySettled c.self.inside.board c.settle_key.new.self c.args.key.now c.args.verdict) c.if-not-branch.true c.in_ok-settle_key.ensures.answer)

pub invariant_of-self-2 : goal.invariant_of-self-2
invariant_of-self-2 g c =
    taken_shared (record { board = c.self.inside.board; width = c.self.inside.width; start = c.self.inside.start; booked = c.self.inside.book.total }) c.settle_key.new.self c.args.key.now c.args.verdict c.self.invariant
    c.in_ok-settle_key.ensures.sound (subst (λ (x : Shared). IsVerdictOn x.board.geometry x.width c.args.key.now c.args.verdict) (sym c.self.view_is) c.requires.verdict)
    (subst (IsKeySettled c.self.inside.board c.settle_key.new.self c.args.key.now c.args.verdict) c.if-not-branch.false c.in_ok-settle_key.ensures.answer) c.book.new.book.total c.book.ensures.total
