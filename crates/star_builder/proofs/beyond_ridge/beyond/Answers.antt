use Rattle.std.proofs.Common.{◌∙◌, Option, None, length, ap, refl, subst}
use Rattle.std.specs.Prelude.{MatchOption}
use Rattle.ntfe_model.specs.Stars.{IsBeyond, IsOuterRidge, order_of}
use Rattle.ntfe_model.proofs.TightLemmas.{read_at}
use Rattle.star_builder.specs.declared.four.Four.{Four}
use Rattle.star_builder.specs.Fours.{members_of}
use Rattle.star_builder.proofs.CrossedRidges.{small_points, some_facet, among, found_other}
use Rattle.star_builder.proofs.beyond_ridge.beyond.Goals as goal

pub facet_of-facet-requires-clause-small : goal.facet_of-facet-requires-clause-small
facet_of-facet-requires-clause-small c =
    let g = c.args.geometry.now in
    small_points g c.points-points.ensures.shape c.args.heights.now c.args.push c.args.member.now c.requires.member c.points-points.result.now c.dual-dual.result.now c.points-points.ensures.value (c.dual-dual.ensures.value ∙ ap (λ p. p.dual) c.pair.ensures.value)

pub facet_of-facet-requires-clause-facet : goal.facet_of-facet-requires-clause-facet
facet_of-facet-requires-clause-facet c =
    let g = c.args.geometry.now in
    some_facet g c.points-points.ensures.shape c.args.heights.now c.args.push c.args.member.now c.requires.member c.points-points.result.now c.dual-dual.result.now c.points-points.ensures.value (c.dual-dual.ensures.value ∙ ap (λ p. p.dual) c.pair.ensures.value)

pub cross-requires-clause-small : goal.cross-requires-clause-small
cross-requires-clause-small c =
    let g = c.args.geometry.now in
    small_points g c.points-points.ensures.shape c.args.heights.now c.args.push c.args.member.now c.requires.member c.points-points.result.now c.dual-dual.result.now c.points-points.ensures.value (c.dual-dual.ensures.value ∙ ap (λ p. p.dual) c.pair.ensures.value)

pub cross-requires-clause-without : goal.cross-requires-clause-without
cross-requires-clause-without c =
    let g = c.args.geometry.now in
    among g c.points-points.ensures.shape c.args.heights.now c.args.push c.args.member.now c.requires.member c.points-points.result.now c.dual-dual.result.now c.points-points.ensures.value (c.dual-dual.ensures.value ∙ ap (λ p. p.dual) c.pair.ensures.value)
    c.args.heights.now refl c.args.without c.requires.without c.index-dual-facet.result c.facet_of-facet.result None

pub returns-in_default : goal.returns-in_default
returns-in_default c =
    let g = c.args.geometry.now in
    let P : Option Four → Type 0 = λ found. MatchOption found (IsOuterRidge g.pair.dual g.points c.args.member.now c.args.without)
    (λ other. IsBeyond g.pair.dual g.points c.args.heights.now (order_of c.args.push (length g.points)) c.args.member.now c.args.without (members_of other) × ¬ (IsOuterRidge g.pair.dual g.points c.args.member.now c.args.without)) in
    subst P c.in_default.is
    (found_other g c.points-points.ensures.shape c.args.heights.now c.args.push c.args.member.now c.requires.member c.points-points.result.now c.dual-dual.result.now c.points-points.ensures.value (c.dual-dual.ensures.value ∙ ap (λ p. p.dual) c.pair.ensures.value)
    c.as_slice-heights.result.now (c.as_slice-heights.ensures ∙ c.heights.view_is) c.args.without c.requires.without c.index-dual-facet.result c.facet_of-facet.result c.cross.result
    c.facet_of-facet.ensures (read_at c.dual-dual.result.now c.facet_of-facet.result c.index-dual-facet.result c.index-dual-facet.is c.facet_of-facet.ensures.place) c.cross.ensures)

pub returns : goal.returns
returns c =
    let g = c.args.geometry.now in
    let P : Option Four → Type 0 = λ found. MatchOption found (IsOuterRidge g.pair.dual g.points c.args.member.now c.args.without)
    (λ other. IsBeyond g.pair.dual g.points c.args.heights.now (order_of c.args.push (length g.points)) c.args.member.now c.args.without (members_of other) × ¬ (IsOuterRidge g.pair.dual g.points c.args.member.now c.args.without)) in
    subst P c.in-Some.is
    (found_other g c.points-points.ensures.shape c.args.heights.now c.args.push c.args.member.now c.requires.member c.points-points.result.now c.dual-dual.result.now c.points-points.ensures.value (c.dual-dual.ensures.value ∙ ap (λ p. p.dual) c.pair.ensures.value)
    c.as_slice-heights.result.now (c.as_slice-heights.ensures ∙ c.heights.view_is) c.args.without c.requires.without c.index-dual-facet.result c.facet_of-facet.result c.cross.result
    c.facet_of-facet.ensures (read_at c.dual-dual.result.now c.facet_of-facet.result c.index-dual-facet.result c.index-dual-facet.is c.facet_of-facet.ensures.place) c.cross.ensures)
