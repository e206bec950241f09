use Rattle.std.proofs.Common.{◌-◌, length}
use Rattle.steal_workers.specs.Shared.{AreHandedOut}
use Rattle.steal_workers.proofs.shared_board.fill.Given as goal

abbrev pub invariant-loop-board : goal.invariant-loop-board
invariant-loop-board l = AreHandedOut l.fn.board l.board l.row

abbrev pub decreases-loop-board : goal.decreases-loop-board
decreases-loop-board l = 64 - length l.row
