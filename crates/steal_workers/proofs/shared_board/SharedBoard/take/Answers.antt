use Rattle.std.proofs.Common.{◌≡◌, subst}
use Rattle.steal_workers.specs.Boards.{IsOver}
use Rattle.steal_workers.specs.Shared.{Shared, IsShared, AreHandedOut}
use Rattle.steal_workers.proofs.SharedBoards.{row_look, over_look, row_shared}
use Rattle.steal_workers.proofs.shared_board.SharedBoard.take.Goals as goal

pub invariant_of-self : goal.invariant_of-self
invariant_of-self g c =
    row_shared (record { board = c.self.inside.board; width = c.self.inside.width; start = c.self.inside.start; booked = c.self.inside.book.total }) c.fill.new.board c.fill.new.row c.fill.ensures c.self.invariant

pub invariant_of-self-2 : goal.invariant_of-self-2
invariant_of-self-2 g c =
    row_shared (record { board = c.self.inside.board; width = c.self.inside.width; start = c.self.inside.start; booked = c.self.inside.book.total }) c.fill.new.board c.fill.new.row c.fill.ensures c.self.invariant

pub returns-then-not-is_empty : goal.returns-then-not-is_empty
returns-then-not-is_empty g c = record {
  look = row_look c.args.self.now c.args.listing.now c.args.last.now (subst IsShared c.self.view_is c.self.invariant) (c.is_at.ensures.0 c.if-not-is_at.false) c.fill.new.board c.fill.new.row
      (subst (λ (x : Shared). AreHandedOut x.board c.fill.new.board c.fill.new.row) c.self.view_is c.fill.ensures);
}

pub returns-then-is_over : goal.returns-then-is_over
returns-then-is_over g c =
    let same : c.fill.new.board ≡ c.self.inside.board = subst (AreHandedOut c.self.inside.board c.fill.new.board) (c.is_empty.ensures.0 c.if-not-is_empty.false) c.fill.ensures in record {
      look = over_look c.args.self.now c.args.listing.now c.args.last.now (subst IsShared c.self.view_is c.self.invariant) (c.is_at.ensures.0 c.if-not-is_at.false)
          (subst (λ (x : Shared). IsOver x.board) c.self.view_is (subst IsOver same (c.is_over.ensures c.if-is_over.true)));
    }
