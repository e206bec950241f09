use Rattle.steal_workers.proofs.SharedBoards.{closed_shared}
use Rattle.steal_workers.proofs.shared_board.SharedBoard.close.Goals as goal

pub invariant_of-self : goal.invariant_of-self
invariant_of-self g c =
    closed_shared (record { board = c.self.inside.board; width = c.self.inside.width; start = c.self.inside.start; booked = c.self.inside.book.total }) c.close.new.self c.self.invariant c.close.ensures.sound c.close.ensures.value
