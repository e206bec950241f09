use Rattle.std.proofs.Common.{length, arith}
use Rattle.ntfe_model.specs.Reflexive.{at}
use Rattle.ntfe_model.specs.Stars.{order_of}
use Rattle.star_builder.proofs.MemberLemmas.{others_more}
use Rattle.star_builder.proofs.search.Search.are_others_above.Goals as goal
use Rattle.star_builder.proofs.search.Search.are_others_above.Goals.{else-is_other-via-then-is_other+else-not-is_lex_above, else-is_other-via-else-is_other}

pub loop-place-preserved : goal.loop-place-preserved
loop-place-preserved c =
    let s = c.args.self.now in
    others_more s.points.now s.heights.now (order_of s.push (length s.points.now)) (at s.dual.now c.args.facet) c.args.four c.loop-place.place c.loop-place.invariant
    (elim c.else-is_other.branch [
      | else-is_other-via-then-is_other+else-not-is_lex_above w ↦ λ o. w.is_lex_above.ensures.when_true w.if-not-is_lex_above.false
      | else-is_other-via-else-is_other w ↦ λ o. absurd (c.is_other.ensures.when_false w.if-is_other.false o)
    ])

pub returns-clause-when_true : goal.returns-clause-when_true
returns-clause-when_true c = λ t p l r o. c.loop-place.invariant p l (let k = c.loop-place-test.false in omega arith) o
