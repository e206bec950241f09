use Rattle.std.proofs.Common.{◌+◌, ap, subst, sym, ◌∙◌}
use Rattle.ntfe_model.specs.Charts.{Patch}
use Rattle.shared_stream.specs.Segments.{HasSegment}
use Rattle.shared_stream.proofs.SegmentLemmas.{has_next}
use Rattle.shared_stream.proofs.segment.Segment.after.Goals as goal

pub from_stream-requires-clause-segment : goal.from_stream-requires-clause-segment
from_stream-requires-clause-segment c =
    let P : Patch → Type 0 = λ h. HasSegment h (c.previous.inside.number + 1) in
    subst P (sym (c.in_ok-stream.ensures.patch ∙ c.requires.tables ∙ ap (λ s. s.patch) (sym c.previous.view_is))) (has_next (record { patch = c.previous.inside.chart; number = c.previous.inside.number; items = c.previous.inside.items.items; ended = c.previous.inside.ended }) c.previous.invariant (ap (λ s. s.ended) c.previous.view_is ∙ c.requires.more))
