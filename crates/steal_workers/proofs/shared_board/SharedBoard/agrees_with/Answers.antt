use Rattle.std.proofs.Common.{ap, ◌∙◌, min, ◌^◌, ◌-◌}
use Rattle.steal_workers.specs.Tallies.{Counts}
use Rattle.steal_workers.proofs.SharedBoards.{totals_agree}
use Rattle.steal_workers.proofs.shared_board.SharedBoard.agrees_with.Goals as goal

pub returns-clause-whole : goal.returns-clause-whole
returns-clause-whole g c all =
    let same = ap (λ (t : Counts). t.booked) c.audit.ensures.same in
    totals_agree c.min.result c.totals.result.settled c.settled.result c.self.inside.book.total (c.min.ensures) (c.settled.ensures.booked ∙ ap (λ n. min (2 ^ 64 - 1) n) (same ∙ c.audit.ensures.whole all))
    (ap (λ t. t.settled) c.totals.ensures ∙ c.self.invariant.tied)
