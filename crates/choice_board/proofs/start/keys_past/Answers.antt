use Rattle.std.proofs.Common.{◌∙◌, sym, ap, [], ◌∷◌, ◌++◌, map}
use Rattle.std.specs.List.{range_with_len}
use Rattle.choice_board.specs.Starts.{key_past}
use Rattle.choice_board.proofs.LeastLemmas.{mapped_more}
use Rattle.choice_board.proofs.start.keys_past.Goals as goal

pub loop-place-preserved : goal.loop-place-preserved
loop-place-preserved c =
    c.in_ok-push.ensures.items ∙ ap (λ ks. ks ++ c.in_ok-key_past.field-0 ∷ []) c.loop-place.invariant
    ∙ ap (λ k. map (key_past c.args.start.now) (range_with_len 0 c.loop-place.place) ++ k ∷ []) c.in_ok-key_past.ensures
    ∙ sym (mapped_more (key_past c.args.start.now) c.loop-place.place [])
