use Rattle.std.proofs.Common.{◌≡◌, ◌∙◌, sym, subst, ℤ, pos, ◌<ℤ◌, to_z, of_z, w64}
use Rattle.std.specs.Int.RustNames.{int_div}
use Rattle.ntfe_model.specs.Charts.{reached}
use Rattle.face_chart.proofs.QuotientLemmas.{quotient_fits, quotient_is, quotient_small}
use Rattle.face_chart.proofs.UnitLemmas.{second_quotient, third_quotient}
use Rattle.face_chart.proofs.units.reaches.Goals as goal

above : (x y : ℤ) → x ≡ y → pos 0 <ℤ y → pos 0 <ℤ x
above x y e l = let P : ℤ → Type 0 = λ z. pos 0 <ℤ z in subst P (sym e) l

pub nonzero_div-m : goal.nonzero_div-m
nonzero_div-m c =
    quotient_fits c.area-second.result c.area-whole.result c.area-second.ensures.size c.area-whole.ensures.size (above c.area-whole.result _ c.area-whole.ensures.value c.requires.left)

pub nonzero_div-m-2 : goal.nonzero_div-m-2
nonzero_div-m-2 c =
    quotient_fits c.area-third.result c.area-whole.result c.area-third.ensures.size c.area-whole.ensures.size (above c.area-whole.result _ c.area-whole.ensures.value c.requires.left)

pub is_reached-requires-clause-multiples : goal.is_reached-requires-clause-multiples
is_reached-requires-clause-multiples c =
    let h = above c.area-whole.result _ c.area-whole.ensures.value c.requires.left in
    record {
      first = quotient_small c.area-second.result c.area-whole.result c.area-second.ensures.size c.area-whole.ensures.size h;
      second = quotient_small c.area-third.result c.area-whole.result c.area-third.ensures.size c.area-whole.ensures.size h;
    }

pub returns : goal.returns
returns c =
    let g = c.args.table.now in
    let h = above c.area-whole.result _ c.area-whole.ensures.value c.requires.left in
    let s = quotient_is c.area-second.result c.area-whole.result c.area-second.ensures.size c.area-whole.ensures.size h ∙ (λ i. int_div (c.area-second.ensures.value i) (c.area-whole.ensures.value i)) in
    let t = quotient_is c.area-third.result c.area-whole.result c.area-third.ensures.size c.area-whole.ensures.size h ∙ (λ i. int_div (c.area-third.ensures.value i) (c.area-whole.ensures.value i)) in
    let m : ℤ = to_z w64 (of_z w64 (int_div (to_z w64 (of_z w64 c.area-second.result)) (to_z w64 (of_z w64 c.area-whole.result)))) in
    let n : ℤ = to_z w64 (of_z w64 (int_div (to_z w64 (of_z w64 c.area-third.result)) (to_z w64 (of_z w64 c.area-whole.result)))) in
    record {
      when_true = λ e.
          (m, n, sym c.place-4.ensures.value ∙ c.is_reached.ensures.when_true e ∙ (λ i. reached (c.place.ensures.value i) (c.place-2.ensures.value i) (c.place-3.ensures.value i) m n));
      when_false = λ e r. c.is_reached.ensures.when_false e
          (c.place-4.ensures.value ∙ r.2
          ∙ (λ i. reached (sym c.place.ensures.value i) (sym c.place-2.ensures.value i) (sym c.place-3.ensures.value i)
          (sym (s ∙ second_quotient g c.args.a c.args.b c.args.c c.args.p r.0 r.1 c.requires.left r.2) i)
          (sym (t ∙ third_quotient g c.args.a c.args.b c.args.c c.args.p r.0 r.1 c.requires.left r.2) i)));
    }
