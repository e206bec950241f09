use Rattle.std.proofs.Common.{◌-◌, Option, Some, length, sym, subst}
use Rattle.ntfe_model.specs.Stars.{order_of}
use Rattle.star_builder.specs.declared.candidate.Candidate.{Candidate}
use Rattle.star_builder.specs.Ridges.{IsCandidateTo, IsJoined, IsLowestTo}
use Rattle.star_builder.proofs.Crossings.{between, first_across}
use Rattle.star_builder.proofs.StarListing.{push_order}
use Rattle.star_builder.proofs.crossing.Crossing.lower.Goals as goal
use Rattle.star_builder.proofs.crossing.Crossing.lower.Goals.{in-Some+else-is_above, in_default}

pub is_above-requires-clause-other : goal.is_above-requires-clause-other
is_above-requires-clause-other c =
    let s = c.args.self.now in
    (subst (λ (x : Option Candidate). IsCandidateTo s.points.now s.heights.now (order_of s.push (length s.points.now)) s.facet.now s.ridge s.without (c.args.p - 1) x) c.in-Some.is c.requires.lowest).0

pub is_above-requires-clause-joined : goal.is_above-requires-clause-joined
is_above-requires-clause-joined c =
    let s = c.args.self.now in
    (subst (λ (x : Option Candidate). IsCandidateTo s.points.now s.heights.now (order_of s.push (length s.points.now)) s.facet.now s.ridge s.without (c.args.p - 1) x) c.in-Some.is c.requires.lowest).1

pub is_above-requires-clause-frame : goal.is_above-requires-clause-frame
is_above-requires-clause-frame c =
    let s = c.args.self.now in
    (subst (λ (x : Option Candidate). IsCandidateTo s.points.now s.heights.now (order_of s.push (length s.points.now)) s.facet.now s.ridge s.without (c.args.p - 1) x) c.in-Some.is c.requires.lowest).2

pub returns-then-is_above : goal.returns-then-is_above
returns-then-is_above c =
    let s = c.args.self.now in
    let h = subst (λ (x : Option Candidate). IsCandidateTo s.points.now s.heights.now (order_of s.push (length s.points.now)) s.facet.now s.ridge s.without (c.args.p - 1) x) c.in-Some.is c.requires.lowest in
    (c.is_above.ensures.when_true c.if-is_above.true, h.1, h.2)

pub returns : goal.returns
returns c =
    let s = c.args.self.now in
    let now : IsLowestTo s.points.now s.heights.now (order_of s.push (length s.points.now)) s.facet.now s.ridge s.without c.args.p (Some c.args.p) = elim c.match-lowest.branch [
      | in-Some+else-is_above w ↦ w.is_above.ensures.when_false w.if-is_above.false
      | in_default w ↦
          first_across s.points.now s.facet.now s.ridge s.heights.now (order_of s.push (length s.points.now)) (push_order s.push (length s.points.now)) s.small s.without s.first (between s) s.last c.args.p c.requires.point c.requires.across
          (subst (λ (x : Option Candidate). IsCandidateTo s.points.now s.heights.now (order_of s.push (length s.points.now)) s.facet.now s.ridge s.without (c.args.p - 1) x) w.in_default.is c.requires.lowest)
    ] in
    (subst (λ q. IsLowestTo s.points.now s.heights.now (order_of s.push (length s.points.now)) s.facet.now s.ridge s.without c.args.p (Some q)) (sym c.candidate.ensures.point) now, subst (λ q. IsJoined s.ridge q c.candidate.result.four) (sym c.candidate.ensures.point) c.candidate.ensures.joined, c.candidate.ensures.frame)
