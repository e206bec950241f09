use Rattle.std.proofs.Common.{◌∙◌, sym, refl, true, false}
use Rattle.star_builder.specs.FaceCharts.{patch}
use Rattle.ntfe_model.proofs.AxesLemmas.{axes_are}
use Rattle.star_builder.proofs.span.axes_of.Goals as goal

pub returns-then-spans-clause-value : goal.returns-then-spans-clause-value
returns-then-spans-clause-value c =
    let h = patch c.args.numbers.now c.args.points.now in
    sym (axes_are h true _ _ _ _ _ (sym c.spans.ensures ∙ c.if-spans.true) refl refl refl refl refl)

pub returns-then-spans-2-clause-value : goal.returns-then-spans-2-clause-value
returns-then-spans-2-clause-value c =
    let h = patch c.args.numbers.now c.args.points.now in
    sym (axes_are h false true _ _ _ _ (sym c.spans.ensures ∙ c.if-spans.false) (sym c.spans-2.ensures ∙ c.if-spans-2.true) refl refl refl refl)

pub returns-then-spans-3-clause-value : goal.returns-then-spans-3-clause-value
returns-then-spans-3-clause-value c =
    let h = patch c.args.numbers.now c.args.points.now in
    sym (axes_are h false false true _ _ _ (sym c.spans.ensures ∙ c.if-spans.false) (sym c.spans-2.ensures ∙ c.if-spans-2.false) (sym c.spans-3.ensures ∙ c.if-spans-3.true) refl refl refl)

pub returns-then-spans-4-clause-value : goal.returns-then-spans-4-clause-value
returns-then-spans-4-clause-value c =
    let h = patch c.args.numbers.now c.args.points.now in
    sym (axes_are h false false false true _ _ (sym c.spans.ensures ∙ c.if-spans.false) (sym c.spans-2.ensures ∙ c.if-spans-2.false) (sym c.spans-3.ensures ∙ c.if-spans-3.false) (sym c.spans-4.ensures ∙ c.if-spans-4.true) refl refl)

pub returns-then-spans-5-clause-value : goal.returns-then-spans-5-clause-value
returns-then-spans-5-clause-value c =
    let h = patch c.args.numbers.now c.args.points.now in
    sym (axes_are h false false false false true _ (sym c.spans.ensures ∙ c.if-spans.false) (sym c.spans-2.ensures ∙ c.if-spans-2.false) (sym c.spans-3.ensures ∙ c.if-spans-3.false) (sym c.spans-4.ensures ∙ c.if-spans-4.false) (sym c.spans-5.ensures ∙ c.if-spans-5.true) refl)

pub returns-then-spans-6-clause-value : goal.returns-then-spans-6-clause-value
returns-then-spans-6-clause-value c =
    let h = patch c.args.numbers.now c.args.points.now in
    sym (axes_are h false false false false false true (sym c.spans.ensures ∙ c.if-spans.false) (sym c.spans-2.ensures ∙ c.if-spans-2.false) (sym c.spans-3.ensures ∙ c.if-spans-3.false) (sym c.spans-4.ensures ∙ c.if-spans-4.false) (sym c.spans-5.ensures ∙ c.if-spans-5.false) (sym c.spans-6.ensures ∙ c.if-spans-6.true))

pub returns-clause-value : goal.returns-clause-value
returns-clause-value c =
    let h = patch c.args.numbers.now c.args.points.now in
    sym (axes_are h false false false false false false (sym c.spans.ensures ∙ c.if-spans.false) (sym c.spans-2.ensures ∙ c.if-spans-2.false) (sym c.spans-3.ensures ∙ c.if-spans-3.false) (sym c.spans-4.ensures ∙ c.if-spans-4.false) (sym c.spans-5.ensures ∙ c.if-spans-5.false) (sym c.spans-6.ensures ∙ c.if-spans-6.false))
