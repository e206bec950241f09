use Rattle.std.proofs.Common.{sym, ◌∙◌, ap, map}
use Rattle.steal_ring.proofs.SameSeats.{pair_ring}
use Rattle.steal_ring.proofs.tests.pair.Goals as goal

pub returns : goal.returns
returns c = pair_ring c.in_ok-seats.field-0 c.pop.new.self.items c.pop-2.new.self.items _ _ c.in_ok-seats.ensures.ring c.in_ok-seats.ensures.numbers (sym c.into_vec-seats.ensures ∙ c.in-Some.ensures.items) c.in-Some-pop.ensures.items
