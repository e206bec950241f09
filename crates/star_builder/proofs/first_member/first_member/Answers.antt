use Rattle.std.proofs.Common.{◌≡◌, ◌+◌, ℕ, List, Option, subst}
use Rattle.std.specs.Prelude.{⊤}
use Rattle.star_builder.specs.Walks.{IsFound}
use Rattle.star_builder.proofs.FirstMembers.{none_more, none_off, none_all}
use Rattle.star_builder.proofs.LowSimplices.{has_first}
use Rattle.star_builder.proofs.first_member.first_member.Goals as goal
use Rattle.star_builder.proofs.first_member.first_member.Goals.{then-is_on+in_default, else-is_on}

pub loop-place-preserved : goal.loop-place-preserved
loop-place-preserved c =
    let s = c.args.search.now in
    let n = c.loop-place.place in
    none_more s c.args.facet (λ i j k l. ⊤) (λ i j k l. i) n c.loop-place.invariant
    (elim c.if-is_on.branch [
      | then-is_on+in_default w ↦ λ i j k l p. subst (λ (x : Option (List ℕ)). IsFound s c.args.facet (λ i j k l. i ≡ n + 1) x) w.in_default.is w.with_one.ensures i j k l p.1
      | else-is_on w ↦ none_off s c.args.facet (λ i j k l. ⊤) (λ i j k l. i) has_first (n + 1) (c.is_on.ensures.when_false w.if-is_on.false)
    ])

pub returns : goal.returns
returns c = none_all c.args.search.now c.args.facet (λ i j k l. ⊤) (λ i j k l. i) has_first c.loop-place.place c.loop-place-test.false c.loop-place.invariant
