use Rattle.std.proofs.Common.{◌≡◌, ◌+◌, ℕ, List, [], ◌∷◌, length, subst}
use Rattle.ntfe_model.specs.Stars.{IsMember, order_of}
use Rattle.star_builder.proofs.FirstMembers.{none_more, none_off, none_all}
use Rattle.star_builder.proofs.LowSimplices.{has_fourth}
use Rattle.star_builder.proofs.first_member.with_three.Goals as goal
use Rattle.star_builder.proofs.first_member.with_three.Goals.{else-is_on-via-then-is_on+else-is_member, else-is_on-via-else-is_on}

pub loop-place-preserved : goal.loop-place-preserved
loop-place-preserved c =
    let s = c.args.search.now in
    let n = c.loop-place.place in
    none_more s c.args.facet (λ i j k l. (i ≡ c.args.a) × (j ≡ c.args.b) × (k ≡ c.args.c)) (λ i j k l. l) n c.loop-place.invariant
    (elim c.else-is_on.branch [
      | else-is_on-via-then-is_on+else-is_member w ↦ λ i j k l p m. w.is_member.ensures.when_false w.if-is_member.false
          (subst (λ (ks : List ℕ). IsMember s.dual.now s.points.now s.heights.now (order_of s.push (length s.points.now)) ks) (λ t. p.0.0 t ∷ p.0.1 t ∷ p.0.2 t ∷ p.1 t ∷ []) m.0)
      | else-is_on-via-else-is_on w ↦ none_off s c.args.facet (λ i j k l. (i ≡ c.args.a) × (j ≡ c.args.b) × (k ≡ c.args.c)) (λ i j k l. l) has_fourth (n + 1) (c.is_on.ensures.when_false w.if-is_on.false)
    ])

pub returns : goal.returns
returns c = none_all c.args.search.now c.args.facet (λ i j k l. (i ≡ c.args.a) × (j ≡ c.args.b) × (k ≡ c.args.c)) (λ i j k l. l) has_fourth c.loop-place.place c.loop-place-test.false c.loop-place.invariant
