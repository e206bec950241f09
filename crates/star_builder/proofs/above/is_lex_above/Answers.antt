use Rattle.std.proofs.Common.{length, sym, ap, subst, of_z}
use Rattle.std.specs.Int.{w128}
use Rattle.ntfe_model.specs.Stars.{IsLexAbove, order_of}
use Rattle.ntfe_model.specs.declared.nogood.Push.{Push}
use Rattle.ntfe_model.specs.declared.nogood.Push.TheVariants.{Up, Down}
use Rattle.star_builder.proofs.AboveLemmas.{tied_above, tied_not_above, under_not_above, zero_from_bits, most_zero_from_test}
use Rattle.star_builder.proofs.above.is_lex_above.Goals as goal

pub returns-then-up-ne0-clause-when_false : goal.returns-then-up-ne0-clause-when_false
returns-then-up-ne0-clause-when_false c = λ t.
    let up = c.rise-up in
    under_not_above c.args.points.now c.args.heights.now (order_of c.args.push (length c.args.points.now)) c.args.four c.args.p c.mix-m.result c.mix-m.ensures.mix up.result up.ensures.value c.requires.independent
    (λ z. c.if-up-ne0.true (ap (of_z w128) z)) (most_zero_from_test up.result up.ensures.size t)

pub returns-in-Up-clause-when_true : goal.returns-in-Up-clause-when_true
returns-in-Up-clause-when_true c = λ t.
    let up = c.rise-up in
    let xs = c.args.points.now in
    let f = c.args.four in
    let P : Push → Type 0 = λ push. IsLexAbove xs c.args.heights.now (order_of push (length xs)) f.a f.b f.c f.d c.args.p in
    subst P (sym c.in-Up.is)
    (tied_above xs c.args.heights.now (order_of Up (length xs)) f c.args.p c.mix-m.result c.mix-m.ensures.mix up.result up.ensures.value
    (zero_from_bits up.result up.ensures.size c.if-up-ne0.false)
    (c.is_above_up.ensures.when_true t (length xs) c.requires.four.last.1 c.requires.point.1))

pub returns-in-Up-clause-when_false : goal.returns-in-Up-clause-when_false
returns-in-Up-clause-when_false c = λ t.
    let up = c.rise-up in
    let xs = c.args.points.now in
    let f = c.args.four in
    let P : Push → Type 0 = λ push. ¬ (IsLexAbove xs c.args.heights.now (order_of push (length xs)) f.a f.b f.c f.d c.args.p) in
    subst P (sym c.in-Up.is)
    (tied_not_above xs c.args.heights.now (order_of Up (length xs)) f c.args.p c.mix-m.result c.mix-m.ensures.mix up.result up.ensures.value c.requires.independent
    (zero_from_bits up.result up.ensures.size c.if-up-ne0.false)
    (c.is_above_up.ensures.when_false t (length xs) c.requires.four.last.1 c.requires.point.1))

pub returns-in-Down-clause-when_true : goal.returns-in-Down-clause-when_true
returns-in-Down-clause-when_true c = λ t.
    let up = c.rise-up in
    let xs = c.args.points.now in
    let f = c.args.four in
    let P : Push → Type 0 = λ push. IsLexAbove xs c.args.heights.now (order_of push (length xs)) f.a f.b f.c f.d c.args.p in
    subst P (sym c.in-Down.is)
    (tied_above xs c.args.heights.now (order_of Down (length xs)) f c.args.p c.mix-m.result c.mix-m.ensures.mix up.result up.ensures.value
    (zero_from_bits up.result up.ensures.size c.if-up-ne0.false)
    (c.is_above_down.ensures.when_true t (length xs) c.requires.four.last.1 c.requires.point.1))

pub returns-in-Down-clause-when_false : goal.returns-in-Down-clause-when_false
returns-in-Down-clause-when_false c = λ t.
    let up = c.rise-up in
    let xs = c.args.points.now in
    let f = c.args.four in
    let P : Push → Type 0 = λ push. ¬ (IsLexAbove xs c.args.heights.now (order_of push (length xs)) f.a f.b f.c f.d c.args.p) in
    subst P (sym c.in-Down.is)
    (tied_not_above xs c.args.heights.now (order_of Down (length xs)) f c.args.p c.mix-m.result c.mix-m.ensures.mix up.result up.ensures.value c.requires.independent
    (zero_from_bits up.result up.ensures.size c.if-up-ne0.false)
    (c.is_above_down.ensures.when_false t (length xs) c.requires.four.last.1 c.requires.point.1))
