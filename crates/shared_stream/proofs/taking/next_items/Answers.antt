use Rattle.std.proofs.Common.{arith}
use Rattle.shared_stream.proofs.TakenItems.{taking_one, taking_all, taking_many}
use Rattle.shared_stream.proofs.taking.next_items.Goals as goal

pub loop-turn-preserved : goal.loop-turn-preserved
loop-turn-preserved c =
    taking_one c.loop-turn._turn c.args.stream.now c.loop-turn.stream c.next.new.self c.in_ok-next.field-0 c.in-Some.item c.loop-turn.items.items c.push.new.self.items c.loop-turn.invariant
    c.in_ok-next.ensures.patch c.in_ok-next.ensures.answer c.in-Some.is c.in_ok-push-in-Some.ensures.items

pub returns-in-None-clause-items : goal.returns-in-None-clause-items
returns-in-None-clause-items c = λ n s.
    taking_all c.loop-turn._turn c.args.stream.now c.loop-turn.stream c.next.new.self c.in_ok-next.field-0 c.loop-turn.items.items c.loop-turn.invariant c.loop-turn.auto._turn-end
    c.in_ok-next.ensures.answer c.in-None.is n s

pub returns-clause-items : goal.returns-clause-items
returns-clause-items c = λ n s. taking_many c.loop-turn._turn c.args.stream.now c.loop-turn.stream c.loop-turn.items.items c.loop-turn.invariant (omega arith) n s
