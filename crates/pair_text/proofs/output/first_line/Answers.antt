use Rattle.std.proofs.Common.{take, drop, ap, ◌∙◌}
use Rattle.std.proofs.lemmas.List.{drop-drop}
use Rattle.std.specs.List.{position_or_len}
use Rattle.pair_text.proofs.Splitting.{is_feed, place_is}
use Rattle.pair_text.proofs.OutputLines.{first_line_is}
use Rattle.pair_text.proofs.output.first_line.Goals as goal

pub returns : goal.returns
returns c =
    let bytes = c.args.bytes.now in
    let place = place_is is_feed bytes _ _ c.line_end.ensures c.unwrap_or-length.ensures in
    first_line_is bytes _ _ c.requires (c.split_at.ensures.front ∙ ap (λ k. take k bytes) place)
    (c.without_first.ensures ∙ ap (drop 1) (c.split_at.ensures.back ∙ ap (λ k. drop k bytes) place) ∙ drop-drop 1 (position_or_len is_feed bytes) bytes)
