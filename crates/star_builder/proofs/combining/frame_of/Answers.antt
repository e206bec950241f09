use Rattle.std.proofs.Common.{◌≡◌, ◌≤◌, ◌^◌, ◌∙◌, ℤ, refl, sym, subst, unsigned_abs}
use Rattle.ntfe_nums.specs.Vectors.{dot, det4, cofactors}
use Rattle.ntfe_model.specs.Points.{place_of_point}
use Rattle.ntfe_model.specs.Stars.{IsCombination}
use Rattle.star_builder.proofs.Determinants.{same_short, turned_short, turned_size, negative_from_short, not_negative_from_short, first_share, second_share, third_share, fourth_share, first_turned, second_turned, third_turned, fourth_turned}
use Rattle.star_builder.proofs.Combinations.{combination_plain, combination_turned}
use Rattle.star_builder.proofs.combining.frame_of.Goals as goal

pub returns-then-size-lt0 : goal.returns-then-size-lt0
returns-then-size-lt0 c =
    let xs = c.args.points.now in
    let f = c.args.four in
    let ea = c.place-a.ensures.value in
    let eb = c.place-b.ensures.value in
    let ec = c.place-c.ensures.value in
    let ed = c.place-d.ensures.value in
    let size = c.determinant-size in
    let a = place_of_point xs f.a in
    let b = place_of_point xs f.b in
    let u = place_of_point xs f.c in
    let d = place_of_point xs f.d in
    let e = turned_short size.result size.ensures.size in
    let is_det : size.result ≡ det4 a b u d = size.ensures.value ∙ (λ i. det4 (ea i) (eb i) (ec i) (ed i)) in
    let P : ℤ → Type 0 = λ z. unsigned_abs z ≤ 2 ^ 48 in
    let n1 = c.normal.ensures.value in
    let n2 = c.normal-then-size-lt0.ensures.value in
    let n3 = c.normal-then-size-lt0-2.ensures.value in
    let n4 = c.normal-then-size-lt0-3.ensures.value in
    record {
      mixes = λ p.
          let x = place_of_point xs p in
          subst (λ (s : ℤ × ℤ × ℤ × ℤ × ℤ). IsCombination xs f.a f.b f.c f.d p s.0 s.1 s.2 s.3 s.4)
          (λ i. (
            sym e i,
            sym ((λ j. dot (n1 j) x) ∙ (λ j. dot (cofactors (eb j) (ec j) (ed j)) x) ∙ first_turned a b u d x) i,
            sym ((λ j. dot (n2 j) x) ∙ (λ j. dot (cofactors (ec j) (ea j) (ed j)) x) ∙ second_turned a b u d x) i,
            sym ((λ j. dot (n3 j) x) ∙ (λ j. dot (cofactors (ea j) (eb j) (ed j)) x) ∙ third_turned a b u d x) i,
            sym ((λ j. dot (n4 j) x) ∙ (λ j. dot (cofactors (eb j) (ea j) (ec j)) x) ∙ fourth_turned a b u d x) i,
          ))
          (combination_turned xs f.a f.b f.c f.d p size.result (det4 x b u d) (det4 a x u d) (det4 a b x d) (det4 a b u x) is_det refl refl refl refl (negative_from_short size.result size.ensures.size c.if-size-lt0.true));
      size = subst P (sym e) (turned_size size.result size.ensures.size);
      first = c.normal.ensures.large;
      second = c.normal-then-size-lt0.ensures.large;
      third = c.normal-then-size-lt0-2.ensures.large;
      fourth = c.normal-then-size-lt0-3.ensures.large;
    }

pub returns-else-size-lt0 : goal.returns-else-size-lt0
returns-else-size-lt0 c =
    let xs = c.args.points.now in
    let f = c.args.four in
    let ea = c.place-a.ensures.value in
    let eb = c.place-b.ensures.value in
    let ec = c.place-c.ensures.value in
    let ed = c.place-d.ensures.value in
    let size = c.determinant-size in
    let a = place_of_point xs f.a in
    let b = place_of_point xs f.b in
    let u = place_of_point xs f.c in
    let d = place_of_point xs f.d in
    let e = same_short size.result size.ensures.size in
    let is_det : size.result ≡ det4 a b u d = size.ensures.value ∙ (λ i. det4 (ea i) (eb i) (ec i) (ed i)) in
    let P : ℤ → Type 0 = λ z. unsigned_abs z ≤ 2 ^ 48 in
    let n1 = c.normal-else-size-lt0.ensures.value in
    let n2 = c.normal-else-size-lt0-2.ensures.value in
    let n3 = c.normal-else-size-lt0-3.ensures.value in
    let n4 = c.normal-else-size-lt0-4.ensures.value in
    record {
      mixes = λ p.
          let x = place_of_point xs p in
          subst (λ (s : ℤ × ℤ × ℤ × ℤ × ℤ). IsCombination xs f.a f.b f.c f.d p s.0 s.1 s.2 s.3 s.4)
          (λ i. (
            sym e i,
            sym ((λ j. dot (n1 j) x) ∙ (λ j. dot (cofactors (ec j) (eb j) (ed j)) x) ∙ first_share a b u d x) i,
            sym ((λ j. dot (n2 j) x) ∙ (λ j. dot (cofactors (ea j) (ec j) (ed j)) x) ∙ second_share a b u d x) i,
            sym ((λ j. dot (n3 j) x) ∙ (λ j. dot (cofactors (eb j) (ea j) (ed j)) x) ∙ third_share a b u d x) i,
            sym ((λ j. dot (n4 j) x) ∙ (λ j. dot (cofactors (ea j) (eb j) (ec j)) x) ∙ fourth_share a b u d x) i,
          ))
          (combination_plain xs f.a f.b f.c f.d p size.result (det4 x b u d) (det4 a x u d) (det4 a b x d) (det4 a b u x) is_det refl refl refl refl (not_negative_from_short size.result size.ensures.size c.if-size-lt0.false));
      size = subst P (sym e) size.ensures.size;
      first = c.normal-else-size-lt0.ensures.large;
      second = c.normal-else-size-lt0-2.ensures.large;
      third = c.normal-else-size-lt0-3.ensures.large;
      fourth = c.normal-else-size-lt0-4.ensures.large;
    }
