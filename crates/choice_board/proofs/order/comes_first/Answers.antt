use Rattle.std.proofs.Common.{◌≡◌, ◌∙◌, ap}
use Rattle.std.specs.Ordering.{nat_cmp}
use Rattle.std.specs.Cmp.Lexicographic.{slice_cmp}
use Rattle.choice_board.proofs.RowLemmas.{at_back}
use Rattle.choice_board.proofs.OrderLemmas.{turn_before, no_turn, lt_true, lt_false}
use Rattle.choice_board.proofs.order.comes_first.Goals as goal

-- what was compared
compared : (c : goal.After-is_lt) → c.cmp.result ≡ slice_cmp nat_cmp c.in-Some.record.now.key c.in-Some-back.key.now
compared c = c.cmp.ensures ∙ ap (λ v. slice_cmp nat_cmp v c.numbers-2.result.now) c.numbers.ensures ∙ ap (slice_cmp nat_cmp c.in-Some.record.now.key) c.numbers-2.ensures

pub returns-clause-when_true : goal.returns-clause-when_true
returns-clause-when_true c = λ t.
    turn_before c.args.recorded.now.items c.args.keys.now.items c.in-Some.record.now c.in-Some-back.key.now c.requires c.in-Some.ensures.item.3.0 (at_back c.args.recorded.now.items c.args.recorded.now.len c.in-Some.record.now c.args.recorded.now.ok.0 c.in-Some.ensures.item.1)
    c.in-Some-back.ensures.item.3.0 (at_back c.args.keys.now.items c.args.keys.now.len c.in-Some-back.key.now c.args.keys.now.ok.0 c.in-Some-back.ensures.item.1)
    (lt_true c.in-Some.record.now.key c.in-Some-back.key.now c.cmp.result c.is_lt.result c.is_lt.ensures (compared c) t)

pub returns-clause-when_false : goal.returns-clause-when_false
returns-clause-when_false c = λ t.
    no_turn c.args.recorded.now.items c.args.keys.now.items c.in-Some.record.now c.in-Some-back.key.now (at_back c.args.recorded.now.items c.args.recorded.now.len c.in-Some.record.now c.args.recorded.now.ok.0 c.in-Some.ensures.item.1) c.in-Some-back.ensures.item.3.0 (at_back c.args.keys.now.items c.args.keys.now.len c.in-Some-back.key.now c.args.keys.now.ok.0 c.in-Some-back.ensures.item.1)
    (lt_false c.in-Some.record.now.key c.in-Some-back.key.now c.cmp.result c.is_lt.result c.is_lt.ensures (compared c) t)
