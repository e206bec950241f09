use Rattle.std.proofs.Common.{◌≡◌, ◌∙◌, pos, ◌*ℤ◌, ◌<ℤ◌, subst, sym}
use Rattle.ntfe_nums.specs.Vectors.{Vector, cofactors, det4, dot, vector}
use Rattle.ntfe_nums.proofs.DetLemmas.{det4-cofactors}
use Rattle.ntfe_model.specs.Reflexive.{IsTight}
use Rattle.star_builder.proofs.Determinants.{same_short}
use Rattle.star_builder.proofs.crossing.Crossing.is_across.Goals as goal

-- a product with the normal is the determinant
determined : (n a b c x y : Vector) → n ≡ cofactors a b c → x ≡ y → dot n x ≡ det4 a b c y
determined n a b c x y e q = (λ i. dot (e i) (q i)) ∙ sym (det4-cofactors a b c y)

pub returns-clause-when_true : goal.returns-clause-when_true
returns-clause-when_true c = λ t.
    let first = same_short c.args.side c.requires.size ∙ c.requires.side in
    let second = same_short c.product.result c.product.ensures.size ∙ c.product.ensures.value ∙ determined (vector c.args.normal.now) _ _ _ _ _ c.requires.normal c.place-at.ensures.value in
    record {
      tight = subst (λ v. IsTight c.args.self.now.facet.now v) c.place-at.ensures.value (c.is_tight.ensures.when_true c.if-not-is_tight.false);
      opposite = subst (λ z. z <ℤ pos 0) (λ i. first i *ℤ second i) (c.are_opposite.ensures.when_true t);
    }

pub returns-clause-when_false : goal.returns-clause-when_false
returns-clause-when_false c = λ t h.
    let first = same_short c.args.side c.requires.size ∙ c.requires.side in
    let second = same_short c.product.result c.product.ensures.size ∙ c.product.ensures.value ∙ determined (vector c.args.normal.now) _ _ _ _ _ c.requires.normal c.place-at.ensures.value in
    c.are_opposite.ensures.when_false t (subst (λ z. z <ℤ pos 0) (λ i. sym first i *ℤ sym second i) h.opposite)
