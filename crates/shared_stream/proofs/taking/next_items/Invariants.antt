use Rattle.shared_stream.proofs.TakenItems.{IsTaking}
use Rattle.shared_stream.proofs.taking.next_items.Given as goal

abbrev pub invariant-loop-turn : goal.invariant-loop-turn
invariant-loop-turn l = IsTaking l._turn l.fn.stream l.stream l.items.items
