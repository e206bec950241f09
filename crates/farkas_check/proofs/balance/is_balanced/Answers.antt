use Rattle.farkas_check.proofs.BalanceLemmas.{small_read, balanced_read, balanced_back, factor_word}
use Rattle.farkas_check.proofs.balance.is_balanced.Goals as goal

pub is_sum-requires-clause-a : goal.is_sum-requires-clause-a
is_sum-requires-clause-a c = small_read c.args.points.now c.args.fold.now.a c.index-points-fold.result c.requires.points.a

pub is_sum-requires-clause-b : goal.is_sum-requires-clause-b
is_sum-requires-clause-b c = small_read c.args.points.now c.args.fold.now.b c.index-points-fold-2.result c.requires.points.b

pub is_sum-requires-clause-c : goal.is_sum-requires-clause-c
is_sum-requires-clause-c c = small_read c.args.points.now c.args.fold.now.c c.index-points-fold-3.result c.requires.points.c

pub is_sum-requires-clause-d : goal.is_sum-requires-clause-d
is_sum-requires-clause-d c = small_read c.args.points.now c.args.fold.now.d c.index-points-fold-4.result c.requires.points.d

pub returns-clause-when_true : goal.returns-clause-when_true
returns-clause-when_true c = λ e.
    let r = c.args.fold.now in
    balanced_read c.args.points.now r _ _ c.index-points-fold.result c.index-points-fold-2.result c.index-points-fold-3.result c.index-points-fold-4.result c.requires.points.a.0 c.requires.points.b.0 c.requires.points.c.0 c.requires.points.d.0
    (factor_word r.alpha c.requires.small.0) (factor_word r.beta c.requires.small.1) (c.is_sum.ensures.when_true e)

pub returns-clause-when_false : goal.returns-clause-when_false
returns-clause-when_false c = λ e k.
    let r = c.args.fold.now in
    c.is_sum.ensures.when_false e
    (balanced_back c.args.points.now r _ _ c.index-points-fold.result c.index-points-fold-2.result c.index-points-fold-3.result c.index-points-fold-4.result c.requires.points.a.0 c.requires.points.b.0 c.requires.points.c.0 c.requires.points.d.0
    (factor_word r.alpha c.requires.small.0) (factor_word r.beta c.requires.small.1) k)
