use Rattle.std.proofs.Common.{◌∙◌, ℤ, sym, subst}
use Rattle.ntfe_nums.specs.Vectors.{vector, dot}
use Rattle.ntfe_model.specs.Stars.{IsCombination}
use Rattle.star_builder.proofs.Determinants.{widened}
use Rattle.star_builder.proofs.combining.mix.Goals as goal

pub returns-clause-mix : goal.returns-clause-mix
returns-clause-mix c =
    let xs = c.args.points.now in
    let f = c.args.four in
    let r = c.args.frame.now in
    let x = c.place-x.ensures.value in
    let k = c.product-first in
    let l = c.product-second in
    let m = c.product-third in
    let n = c.product-fourth in
    subst (λ (s : ℤ × ℤ × ℤ × ℤ × ℤ). IsCombination xs f.a f.b f.c f.d c.args.p s.0 s.1 s.2 s.3 s.4)
    (λ i. (
      sym (widened r.size c.requires.frame.size) i,
      sym (widened k.result k.ensures.size ∙ k.ensures.value ∙ (λ j. dot (vector r.first) (x j))) i,
      sym (widened l.result l.ensures.size ∙ l.ensures.value ∙ (λ j. dot (vector r.second) (x j))) i,
      sym (widened m.result m.ensures.size ∙ m.ensures.value ∙ (λ j. dot (vector r.third) (x j))) i,
      sym (widened n.result n.ensures.size ∙ n.ensures.value ∙ (λ j. dot (vector r.fourth) (x j))) i,
    ))
    (c.requires.frame.mixes c.args.p)
