use Rattle.std.proofs.Common.{◌≡◌, ◌≢◌, ◌∙◌, sym, ap, subst, arith, take, pos, ℕ}
use Rattle.std.specs.Prelude.{All, Any}
use Rattle.std.proofs.lemmas.List.{take_all}
use Rattle.std.proofs.lemmas.List.Elements.{All-same, All-more}
use Rattle.ntfe_model.proofs.Lists.{any_here}
use Rattle.ntfe_model.specs.declared.flat.Flat.{Flat}
use Rattle.ntfe_model.specs.Flats.{flat_of, area_of_flats}
use Rattle.face_chart.specs.Tables.{place_at}
use Rattle.face_chart.proofs.PatchLemmas.{place_here}
use Rattle.face_chart.proofs.span.has_second.Goals as goal

pub loop-number-preserved : goal.loop-number-preserved
loop-number-preserved c =
    let ks = c.args.numbers.now in
    let vs = c.args.places.now in
    let i = c.loop-number.number-index in
    let Q : Flat → Type 0 = λ b. All (λ k. area_of_flats c.args.a.now b (flat_of c.args.axes (place_at vs k)) ≡ pos 0) ks in
    let P : ℕ → Type 0 = λ j. Q (flat_of c.args.axes (place_at vs j)) in
    let here = place_here ks vs i c.index-places-number.result c.requires.known c.loop-number-test.true c.index-places-number.is in
    let flat = c.flatten-b.ensures.value ∙ ap (flat_of c.args.axes) here in
    All-more P ks i 0 c.loop-number-test.true c.loop-number.invariant (subst Q flat (c.has_third.ensures.when_false c.if-has_third.false))

pub returns-then-has_third-clause-when_true : goal.returns-then-has_third-clause-when_true
returns-then-has_third-clause-when_true c =
    let ks = c.args.numbers.now in
    let vs = c.args.places.now in
    let i = c.loop-number.number-index in
    let Q : Flat → Type 0 = λ b. Any (λ k. area_of_flats c.args.a.now b (flat_of c.args.axes (place_at vs k)) ≢ pos 0) ks in
    let P : ℕ → Type 0 = λ j. Q (flat_of c.args.axes (place_at vs j)) in
    let here = place_here ks vs i c.index-places-number.result c.requires.known c.loop-number-test.true c.index-places-number.is in
    let flat = c.flatten-b.ensures.value ∙ ap (flat_of c.args.axes) here in
    λ e. any_here P ks i c.loop-number-test.true (subst Q flat (c.has_third.ensures.when_true c.if-has_third.true))

pub returns-clause-when_false : goal.returns-clause-when_false
returns-clause-when_false c =
    let ks = c.args.numbers.now in
    let vs = c.args.places.now in
    let i = c.loop-number.number-index in
    let P : ℕ → Type 0 = λ j. All (λ k. area_of_flats c.args.a.now (flat_of c.args.axes (place_at vs j)) (flat_of c.args.axes (place_at vs k)) ≡ pos 0) ks in
    λ e. All-same P ks (take i ks) (sym (take_all i ks (omega arith))) c.loop-number.invariant
