use Rattle.std.proofs.Common.{drop, take, ap, ◌∙◌}
use Rattle.std.specs.List.{position_or_len}
use Rattle.std.specs.Str.Lines.{strip_carriage_return}
use Rattle.std.proofs.lemmas.List.{drop-drop}
use Rattle.pair_text.proofs.Splitting.{place_is, is_feed, line_cut}
use Rattle.pair_text.proofs.line.Lines.take_line.Goals as goal

pub returns-clause-line : goal.returns-clause-line
returns-clause-line c =
    let xs = c.args.self.now.rest.now in
    let length_is = place_is is_feed xs _ _ c.line_end.ensures c.unwrap_or-length.ensures in
    line_cut c.args.self.now.before xs _ _ c.requires.some (c.without_return.ensures ∙ ap strip_carriage_return (c.split_at.ensures.front ∙ ap (λ k. take k xs) length_is))
    (c.without_first-self.ensures ∙ ap (drop 1) (c.split_at.ensures.back ∙ ap (λ k. drop k xs) length_is) ∙ drop-drop 1 (position_or_len is_feed xs) xs)
