use Rattle.std.proofs.Common.{arith, below_more, to_z, of_z, w64}
use Rattle.ntfe_model.proofs.SmallVectors.{small_coordinates}
use Rattle.farkas_check.proofs.BalanceLemmas.{IsSumAt, sum_at, sum_of_all, left_fits, first_fits, second_fits, sum_fits, from_words, to_words, with_words, without_words}
use Rattle.farkas_check.proofs.balance.is_sum.Goals as goal

pub overflow_add-c : goal.overflow_add-c
overflow_add-c c =
    left_fits c.coordinates-a.result.now c.coordinates-b.result.now c.coordinates-c.result.now c.coordinates-d.result.now c.args.alpha c.args.beta c.loop-i.i
    (small_coordinates c.args.a.now c.coordinates-a.result.now c.requires.a c.coordinates-a.ensures.list) (small_coordinates c.args.b.now c.coordinates-b.result.now c.requires.b c.coordinates-b.ensures.list)
    (small_coordinates c.args.c.now c.coordinates-c.result.now c.requires.c c.coordinates-c.ensures.list) (small_coordinates c.args.d.now c.coordinates-d.result.now c.requires.d c.coordinates-d.ensures.list)
    c.requires.alpha c.requires.beta

pub overflow_mul-alpha : goal.overflow_mul-alpha
overflow_mul-alpha c =
    first_fits c.coordinates-a.result.now c.coordinates-b.result.now c.coordinates-c.result.now c.coordinates-d.result.now c.args.alpha c.args.beta c.loop-i.i
    (small_coordinates c.args.a.now c.coordinates-a.result.now c.requires.a c.coordinates-a.ensures.list) (small_coordinates c.args.b.now c.coordinates-b.result.now c.requires.b c.coordinates-b.ensures.list)
    (small_coordinates c.args.c.now c.coordinates-c.result.now c.requires.c c.coordinates-c.ensures.list) (small_coordinates c.args.d.now c.coordinates-d.result.now c.requires.d c.coordinates-d.ensures.list)
    c.requires.alpha c.requires.beta

pub overflow_mul-beta : goal.overflow_mul-beta
overflow_mul-beta c =
    second_fits c.coordinates-a.result.now c.coordinates-b.result.now c.coordinates-c.result.now c.coordinates-d.result.now c.args.alpha c.args.beta c.loop-i.i
    (small_coordinates c.args.a.now c.coordinates-a.result.now c.requires.a c.coordinates-a.ensures.list) (small_coordinates c.args.b.now c.coordinates-b.result.now c.requires.b c.coordinates-b.ensures.list)
    (small_coordinates c.args.c.now c.coordinates-c.result.now c.requires.c c.coordinates-c.ensures.list) (small_coordinates c.args.d.now c.coordinates-d.result.now c.requires.d c.coordinates-d.ensures.list)
    c.requires.alpha c.requires.beta

pub overflow_add-alpha : goal.overflow_add-alpha
overflow_add-alpha c =
    sum_fits c.coordinates-a.result.now c.coordinates-b.result.now c.coordinates-c.result.now c.coordinates-d.result.now c.args.alpha c.args.beta c.loop-i.i
    (small_coordinates c.args.a.now c.coordinates-a.result.now c.requires.a c.coordinates-a.ensures.list) (small_coordinates c.args.b.now c.coordinates-b.result.now c.requires.b c.coordinates-b.ensures.list)
    (small_coordinates c.args.c.now c.coordinates-c.result.now c.requires.c c.coordinates-c.ensures.list) (small_coordinates c.args.d.now c.coordinates-d.result.now c.requires.d c.coordinates-d.ensures.list)
    c.requires.alpha c.requires.beta

pub returns-then-c-i-clause-when_false : goal.returns-then-c-i-clause-when_false
returns-then-c-i-clause-when_false c = λ r e.
    c.if-c-i.true
    (to_words c.coordinates-a.result.now c.coordinates-b.result.now c.coordinates-c.result.now c.coordinates-d.result.now c.args.alpha c.args.beta c.loop-i.i
    (small_coordinates c.args.a.now c.coordinates-a.result.now c.requires.a c.coordinates-a.ensures.list) (small_coordinates c.args.b.now c.coordinates-b.result.now c.requires.b c.coordinates-b.ensures.list)
    (small_coordinates c.args.c.now c.coordinates-c.result.now c.requires.c c.coordinates-c.ensures.list) (small_coordinates c.args.d.now c.coordinates-d.result.now c.requires.d c.coordinates-d.ensures.list)
    c.requires.alpha c.requires.beta
    (sum_at c.args.a.now c.args.b.now c.args.c.now c.args.d.now c.args.alpha c.args.beta c.coordinates-a.result.now c.coordinates-b.result.now c.coordinates-c.result.now c.coordinates-d.result.now
    c.coordinates-a.ensures.list c.coordinates-b.ensures.list c.coordinates-c.ensures.list c.coordinates-d.ensures.list c.loop-i.i c.loop-i-test.true e))

pub loop-i-preserved : goal.loop-i-preserved
loop-i-preserved c =
    let a = small_coordinates c.args.a.now c.coordinates-a.result.now c.requires.a c.coordinates-a.ensures.list in
    let b = small_coordinates c.args.b.now c.coordinates-b.result.now c.requires.b c.coordinates-b.ensures.list in
    let d = small_coordinates c.args.c.now c.coordinates-c.result.now c.requires.c c.coordinates-c.ensures.list in
    let e = small_coordinates c.args.d.now c.coordinates-d.result.now c.requires.d c.coordinates-d.ensures.list in
    below_more
    (λ k. IsSumAt c.coordinates-a.result.now c.coordinates-b.result.now c.coordinates-c.result.now c.coordinates-d.result.now (to_z w64 (of_z w64 c.args.alpha)) (to_z w64 (of_z w64 c.args.beta)) k)
    c.loop-i.i c.loop-i.invariant
    (with_words c.coordinates-a.result.now c.coordinates-b.result.now c.coordinates-c.result.now c.coordinates-d.result.now c.args.alpha c.args.beta c.loop-i.i a b d e c.requires.alpha c.requires.beta
    (from_words c.coordinates-a.result.now c.coordinates-b.result.now c.coordinates-c.result.now c.coordinates-d.result.now c.args.alpha c.args.beta c.loop-i.i a b d e c.requires.alpha c.requires.beta c.if-c-i.false))

pub returns-clause-when_true : goal.returns-clause-when_true
returns-clause-when_true c = λ r.
    let a = small_coordinates c.args.a.now c.coordinates-a.result.now c.requires.a c.coordinates-a.ensures.list in
    let b = small_coordinates c.args.b.now c.coordinates-b.result.now c.requires.b c.coordinates-b.ensures.list in
    let d = small_coordinates c.args.c.now c.coordinates-c.result.now c.requires.c c.coordinates-c.ensures.list in
    let e = small_coordinates c.args.d.now c.coordinates-d.result.now c.requires.d c.coordinates-d.ensures.list in
    sum_of_all c.args.a.now c.args.b.now c.args.c.now c.args.d.now c.args.alpha c.args.beta c.coordinates-a.result.now c.coordinates-b.result.now c.coordinates-c.result.now c.coordinates-d.result.now
    c.coordinates-a.ensures.list c.coordinates-b.ensures.list c.coordinates-c.ensures.list c.coordinates-d.ensures.list
    (λ j l. without_words c.coordinates-a.result.now c.coordinates-b.result.now c.coordinates-c.result.now c.coordinates-d.result.now c.args.alpha c.args.beta j a b d e c.requires.alpha c.requires.beta
    (c.loop-i.invariant j (let f = c.loop-i-test.false in omega (arith, l, f))))
