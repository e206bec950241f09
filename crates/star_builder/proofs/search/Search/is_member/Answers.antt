use Rattle.std.proofs.Common.{length}
use Rattle.ntfe_model.specs.Stars.{order_of}
use Rattle.star_builder.proofs.MemberLemmas.{member_from, member_facet, member_others}
use Rattle.star_builder.proofs.search.Search.is_member.Goals as goal

pub returns-in_default-clause-when_false : goal.returns-in_default-clause-when_false
returns-in_default-clause-when_false c = λ t h.
    let s = c.args.self.now in
    c.in_default.ensures (member_facet s.dual.now s.points.now s.heights.now (order_of s.push (length s.points.now)) c.args.four h)

pub returns-clause-when_true : goal.returns-clause-when_true
returns-clause-when_true c = λ t.
    let s = c.args.self.now in
    member_from s.dual.now s.points.now s.heights.now (order_of s.push (length s.points.now)) c.args.four c.requires.four c.in-Some.facet c.in-Some.ensures (c.are_independent.ensures.when_true c.if-not-are_independent.false) (c.are_others_above.ensures.when_true t)

pub returns-clause-when_false : goal.returns-clause-when_false
returns-clause-when_false c = λ t h.
    let s = c.args.self.now in
    c.are_others_above.ensures.when_false t (member_others s.dual.now s.points.now s.heights.now (order_of s.push (length s.points.now)) c.args.four h c.in-Some.facet c.in-Some.ensures)
