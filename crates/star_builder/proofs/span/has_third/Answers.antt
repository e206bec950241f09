use Rattle.std.proofs.Common.{◌≡◌, ◌≢◌, ◌∙◌, sym, ap, arith, take, pos, ℕ}
use Rattle.std.proofs.lemmas.List.{take_all}
use Rattle.std.proofs.lemmas.List.Elements.{All-same, All-more}
use Rattle.ntfe_nums.proofs.Signs.{bits_of_zero}
use Rattle.ntfe_model.proofs.Lists.{any_here}
use Rattle.ntfe_model.specs.Flats.{flat_of, area_of_flats}
use Rattle.ntfe_model.specs.Points.{place_of_point}
use Rattle.ntfe_model.proofs.FlatLemmas.{zero_from_bits}
use Rattle.star_builder.proofs.span.has_third.Goals as goal

pub loop-number-preserved : goal.loop-number-preserved
loop-number-preserved c =
    let ks = c.args.numbers.now in
    let xs = c.args.points.now in
    let i = c.loop-number.number-index in
    let P : ℕ → Type 0 = λ k. area_of_flats c.args.a.now c.args.b.now (flat_of c.args.axes (place_of_point xs k)) ≡ pos 0 in
    let here = c.place.ensures.value in
    let flat = c.flatten-c.ensures.value ∙ ap (flat_of c.args.axes) here in
    let zero = zero_from_bits c.flat_area.result c.flat_area.ensures.size c.if-flat_area-ne0.false in
    All-more P ks i 0 c.loop-number-test.true c.loop-number.invariant
    (ap (area_of_flats c.args.a.now c.args.b.now) (sym flat) ∙ sym c.flat_area.ensures.value ∙ zero)

pub returns-then-flat_area-ne0-clause-when_true : goal.returns-then-flat_area-ne0-clause-when_true
returns-then-flat_area-ne0-clause-when_true c =
    let ks = c.args.numbers.now in
    let xs = c.args.points.now in
    let i = c.loop-number.number-index in
    let P : ℕ → Type 0 = λ k. area_of_flats c.args.a.now c.args.b.now (flat_of c.args.axes (place_of_point xs k)) ≢ pos 0 in
    let here = c.place.ensures.value in
    let flat = c.flatten-c.ensures.value ∙ ap (flat_of c.args.axes) here in
    λ e. any_here P ks i c.loop-number-test.true
    (λ z. c.if-flat_area-ne0.true (bits_of_zero c.flat_area.result (c.flat_area.ensures.value ∙ ap (area_of_flats c.args.a.now c.args.b.now) flat ∙ z)))

pub returns-clause-when_false : goal.returns-clause-when_false
returns-clause-when_false c =
    let ks = c.args.numbers.now in
    let i = c.loop-number.number-index in
    let P : ℕ → Type 0 = λ k. area_of_flats c.args.a.now c.args.b.now (flat_of c.args.axes (place_of_point c.args.points.now k)) ≡ pos 0 in
    λ e. All-same P ks (take i ks) (sym (take_all i ks (omega arith))) c.loop-number.invariant
