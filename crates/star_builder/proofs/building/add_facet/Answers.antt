use Rattle.std.proofs.Common.{◌+◌, ◌∙◌, ◌++◌, ◌∷◌, [], ℕ, List, Option, length, ap, subst}
use Rattle.std.specs.Prelude.{MatchOption, ⊤}
use Rattle.ntfe_model.specs.Stars.{order_of}
use Rattle.star_builder.specs.Walks.{IsMemberIn}
use Rattle.star_builder.proofs.FacetWalks.{facet_none, facet_reached, found_over}
use Rattle.star_builder.proofs.StarListing.{push_order}
use Rattle.star_builder.proofs.building.add_facet.Goals as goal

pub returns-in_default : goal.returns-in_default
returns-in_default c =
    let g = c.args.geometry.now in
    let order = order_of c.args.search.now.push (length g.points) in
    facet_none g.pair.dual g.points c.args.heights.now order (c.args.facet + 1) c.args.simplices.now.items
    (subst (λ (x : Option (List ℕ)). MatchOption x ((i j k l : ℕ) → ⊤ → IsMemberIn g.pair.dual g.points c.args.heights.now order (c.args.facet + 1) (i ∷ j ∷ k ∷ l ∷ []) → ⊥) (IsMemberIn g.pair.dual g.points c.args.heights.now order (c.args.facet + 1)))
    c.in_default.is (found_over g c.args.heights.now c.args.search.now c.requires.search c.args.facet (λ i j k l. ⊤) c.first_member.result c.first_member.ensures))

pub reach-requires-clause-first : goal.reach-requires-clause-first
reach-requires-clause-first c =
    let g = c.args.geometry.now in
    let order = order_of c.args.search.now.push (length g.points) in
    subst (λ (x : Option (List ℕ)). MatchOption x ((i j k l : ℕ) → ⊤ → IsMemberIn g.pair.dual g.points c.args.heights.now order (c.args.facet + 1) (i ∷ j ∷ k ∷ l ∷ []) → ⊥) (IsMemberIn g.pair.dual g.points c.args.heights.now order (c.args.facet + 1)))
    c.in-Some.is (found_over g c.args.heights.now c.args.search.now c.requires.search c.args.facet (λ i j k l. ⊤) c.first_member.result c.first_member.ensures)

pub returns : goal.returns
returns c =
    let g = c.args.geometry.now in
    facet_reached g c.requires.shape c.args.heights.now (order_of c.args.search.now.push (length g.points)) (push_order c.args.search.now.push (length g.points)) (c.args.facet + 1) c.in_ok-reached.reached.items c.args.simplices.now.items c.extend_from_slice.new.self.items
    c.in_ok-reached.ensures (c.in_ok-extend_from_slice.ensures.items ∙ ap (λ (ts : List (List ℕ)). c.args.simplices.now.items ++ ts) c.as_slice.ensures.value)
