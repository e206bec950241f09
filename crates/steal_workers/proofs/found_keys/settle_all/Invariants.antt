use Rattle.std.proofs.Common.{length}
use Rattle.steal_workers.specs.Shared.{IsSameListing}
use Rattle.steal_workers.specs.Tallies.{IsSameTally}
use Rattle.steal_workers.specs.Workers.{AreFound}
use Rattle.steal_workers.proofs.found_keys.settle_all.Given as goal

abbrev pub invariant-loop-key : goal.invariant-loop-key
invariant-loop-key g l = record {
  listing : IsSameListing l.fn.board l.board;
  found : AreFound l.fn.board.board.geometry l.fn.board.width l.found.items;
  tally : IsSameTally l.fn.mine l.mine;
}

abbrev pub decreases-loop-key : goal.decreases-loop-key
decreases-loop-key g l = length l.found.items
