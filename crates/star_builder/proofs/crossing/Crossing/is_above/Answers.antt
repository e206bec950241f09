use Rattle.std.proofs.Common.{◌≢◌, ◌-◌, ◌≤◌, ℕ, length, arith}
use Rattle.ntfe_model.specs.Stars.{order_of}
use Rattle.star_builder.proofs.Crossings.{between, are_rising, are_independent, is_apart, lower, higher}
use Rattle.star_builder.proofs.StarListing.{push_order}
use Rattle.star_builder.proofs.crossing.Crossing.is_above.Goals as goal

pub is_lex_above-requires-clause-four : goal.is_lex_above-requires-clause-four
is_lex_above-requires-clause-four c =
    let s = c.args.self.now in are_rising s.points.now s.facet.now s.ridge s.first (between s) s.last c.args.other.now.point c.requires.other.0 c.args.other.now.four c.requires.joined

pub is_lex_above-requires-clause-independent : goal.is_lex_above-requires-clause-independent
is_lex_above-requires-clause-independent c =
    let s = c.args.self.now in are_independent s.points.now s.facet.now s.ridge s.without c.args.other.now.point c.requires.other.2 c.args.other.now.four c.requires.joined

pub is_lex_above-requires-clause-apart : goal.is_lex_above-requires-clause-apart
is_lex_above-requires-clause-apart c =
    let s = c.args.self.now in
    is_apart s.points.now s.facet.now s.ridge s.first (between s) s.last s.without c.args.other.now.point c.requires.other.0 c.args.other.now.four c.requires.joined c.args.p c.requires.point c.requires.across
    (later c.args.p c.args.other.now.point c.requires.point.0 c.requires.other.1)
  where
    later : (p o : ℕ) → 1 ≤ p → o ≤ p - 1 → p ≢ o
    later p o k l = grind arith

pub returns-clause-when_true : goal.returns-clause-when_true
returns-clause-when_true c = λ t.
    let s = c.args.self.now in
    higher s.points.now s.facet.now s.ridge s.heights.now (order_of s.push (length s.points.now)) (push_order s.push (length s.points.now)) s.small s.without s.first (between s) s.last c.args.p c.requires.point c.requires.across
    c.args.other.now.point c.requires.other c.args.other.now.four c.requires.joined (c.is_lex_above.ensures.when_true t)

pub returns-clause-when_false : goal.returns-clause-when_false
returns-clause-when_false c = λ t.
    let s = c.args.self.now in
    lower s.points.now s.facet.now s.ridge s.heights.now (order_of s.push (length s.points.now)) (push_order s.push (length s.points.now)) s.small s.without s.first (between s) s.last c.args.p c.requires.point c.requires.across
    c.args.other.now.point c.requires.other c.args.other.now.four c.requires.joined (c.is_lex_above.ensures.when_false t)
