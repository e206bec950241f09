use Rattle.std.proofs.Common.{◌≡◌, ◌∙◌, sym, subst, take, ℕ, List, get_or, true, false, refl}
use Rattle.std.proofs.lemmas.List.{take_all}
use Rattle.std.proofs.lemmas.List.Elements.{All-more, All-same, Contains-get_or}
use Rattle.ntfe_nums.specs.Vectors.{Vector}
use Rattle.face_chart.specs.Tables.{place_at, patch, AreKnown}
use Rattle.face_chart.proofs.PatchLemmas.{place_here, views_same, views_numbers, views_place}
use Rattle.face_chart.proofs.table.Table.same.Goals as goal

not_true : {X : Type 0} → false ≡ true → X
not_true e = cc

pub returns-then-not-are_same_numbers : goal.returns-then-not-are_same_numbers
returns-then-not-are_same_numbers c =
    let s = c.self.inside in
    let o = c.other.inside in (
      λ t. not_true t,
      λ e. absurd (c.are_same_numbers.ensures.when_false c.if-not-are_same_numbers.true
          (c.as_slice-numbers.ensures.value ∙ views_numbers s.numbers.items o.numbers.items s.places.items o.places.items c.args.self.now c.args.other.now c.self.view_is c.other.view_is e ∙ sym c.as_slice.ensures.value)),
    )

pub loop-number-preserved : goal.loop-number-preserved
loop-number-preserved c =
    let ks = c.as_slice-numbers.result.now in
    let vs = c.as_slice-places.result.now in
    let ws = c.as_slice-others.result.now in
    let i = c.loop-number.number-index in
    let known : AreKnown ks vs =
    subst (λ (t : List ℕ × List Vector). AreKnown t.0 t.1) (λ j. (sym c.as_slice-numbers.ensures.value j, sym c.as_slice-places.ensures.value j)) c.self.invariant.known
    in
    let n = c.are_same_numbers.ensures.when_true c.if-not-are_same_numbers.false ∙ c.as_slice.ensures.value in
    let known2 : AreKnown ks ws =
    subst (λ (t : List ℕ × List Vector). AreKnown t.0 t.1) (λ j. (sym n j, sym c.as_slice-others.ensures.value j)) c.other.invariant.known
    in
    let a = place_here ks vs i c.index-places-place.result known c.loop-number-test.true c.index-places-place.is in
    let b = place_here ks ws i c.index-others-place.result known2 c.loop-number-test.true c.index-others-place.is in
    All-more (λ k. place_at vs k ≡ place_at ws k) ks i 0 c.loop-number-test.true c.loop-number.invariant
    (sym a ∙ c.is_same_place.ensures.when_true c.if-not-is_same_place.false ∙ b)

pub returns-then-not-is_same_place : goal.returns-then-not-is_same_place
returns-then-not-is_same_place c =
    let ks = c.as_slice-numbers.result.now in
    let vs = c.as_slice-places.result.now in
    let ws = c.as_slice-others.result.now in
    let s = c.self.inside in
    let o = c.other.inside in
    let i = c.loop-number.number-index in
    let known : AreKnown ks vs =
    subst (λ (t : List ℕ × List Vector). AreKnown t.0 t.1) (λ j. (sym c.as_slice-numbers.ensures.value j, sym c.as_slice-places.ensures.value j)) c.self.invariant.known
    in
    let m = c.are_same_numbers.ensures.when_true c.if-not-are_same_numbers.false in
    let n = m ∙ c.as_slice.ensures.value in
    let known2 : AreKnown ks ws =
    subst (λ (t : List ℕ × List Vector). AreKnown t.0 t.1) (λ j. (sym n j, sym c.as_slice-others.ensures.value j)) c.other.invariant.known
    in
    let a = place_here ks vs i c.index-places-place.result known c.loop-number-test.true c.index-places-place.is in
    let b = place_here ks ws i c.index-others-place.result known2 c.loop-number-test.true c.index-others-place.is in
    let vks = (λ j. patch (c.as_slice-numbers.ensures.value j) (c.as_slice-places.ensures.value j)) ∙ c.self.view_is in
    let wks = (λ j. patch (c.as_slice.ensures.value j) (c.as_slice-others.ensures.value j)) ∙ c.other.view_is in (
      λ t. not_true t,
      λ e. absurd (c.is_same_place.ensures.when_false c.if-not-is_same_place.true
          (a ∙ views_place ks c.as_slice.result.now vs ws c.args.self.now c.args.other.now vks wks m e (get_or ks i 0) (Contains-get_or ks i 0 c.loop-number-test.true) ∙ sym b)),
    )

pub returns : goal.returns
returns c =
    let ks = c.as_slice-numbers.result.now in
    let vs = c.as_slice-places.result.now in
    let ws = c.as_slice-others.result.now in
    let i = c.loop-number.number-index in
    let m = c.are_same_numbers.ensures.when_true c.if-not-are_same_numbers.false in
    let vks = (λ j. patch (c.as_slice-numbers.ensures.value j) (c.as_slice-places.ensures.value j)) ∙ c.self.view_is in
    let wks = (λ j. patch (c.as_slice.ensures.value j) (c.as_slice-others.ensures.value j)) ∙ c.other.view_is in
    let l = c.loop-number-test.false in (
      λ t. views_same ks c.as_slice.result.now vs ws c.args.self.now c.args.other.now vks wks m
          (All-same (λ k. place_at vs k ≡ place_at ws k) ks (take i ks) (sym (take_all i ks l)) c.loop-number.invariant),
      λ e. refl,
    )
