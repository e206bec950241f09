use Rattle.steal_workers.proofs.SharedBoards.{new_shared}
use Rattle.steal_workers.proofs.shared_board.SharedBoard.new.Goals as goal

pub invariant_of-result : goal.invariant_of-result
invariant_of-result g c =
    new_shared (record { board = c.args.board; width = c.args.width; start = c.args.start; booked = c.args.book.total }) c.requires.sound c.requires.board c.requires.book
