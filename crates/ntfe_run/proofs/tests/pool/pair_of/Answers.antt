use Rattle.std.proofs.Common.{sym, ◌∙◌}
use Rattle.steal_ring.proofs.SameSeats.{pair_ring}
use Rattle.ntfe_run.proofs.tests.pool.pair_of.Goals as goal

pub returns : goal.returns
returns c = pair_ring c.args.seats c.pop.new.self.items c.pop-2.new.self.items _ _ c.requires.ring c.requires.numbers (sym c.into_vec-seats.ensures ∙ c.in-Some.ensures.items) c.in-Some-pop.ensures.items
