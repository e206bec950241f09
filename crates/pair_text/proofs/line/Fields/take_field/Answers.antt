use Rattle.std.proofs.Common.{not, drop, take, ap, ◌∙◌, sym, eqb-true}
use Rattle.std.proofs.lemmas.Bool.{eqb-false}
use Rattle.ntfe_model.specs.PairText.{is_blank}
use Rattle.pair_text.proofs.Splitting.{place_is, no_field, first_field}
use Rattle.pair_text.proofs.line.Fields.take_field.Goals as goal

pub returns-then-is_empty : goal.returns-then-is_empty
returns-then-is_empty c =
    let all = c.args.self.now.rest.now in
    let filled = c.split_at.result.1.now in
    let start = place_is (λ b. not (is_blank b)) all _ _ c.field_start.ensures c.unwrap_or-start.ensures in
    let length_is = place_is is_blank filled _ _ c.field_end.ensures c.unwrap_or-length.ensures in
    no_field all filled _ (c.split_at.ensures.back ∙ ap (λ k. drop k all) start) (c.split_at-2.ensures.front ∙ ap (λ k. take k filled) length_is)
    (eqb-true _ _ (sym c.is_empty.ensures ∙ c.if-is_empty.true))

pub returns-else-is_empty : goal.returns-else-is_empty
returns-else-is_empty c =
    let all = c.args.self.now.rest.now in
    let filled = c.split_at.result.1.now in
    let start = place_is (λ b. not (is_blank b)) all _ _ c.field_start.ensures c.unwrap_or-start.ensures in
    let length_is = place_is is_blank filled _ _ c.field_end.ensures c.unwrap_or-length.ensures in
    first_field all filled _ _ (c.split_at.ensures.back ∙ ap (λ k. drop k all) start) (c.split_at-2.ensures.front ∙ ap (λ k. take k filled) length_is)
    (c.split_at-2.ensures.back ∙ ap (λ k. drop k filled) length_is) (eqb-false _ _ (sym c.is_empty.ensures ∙ c.if-is_empty.false))
