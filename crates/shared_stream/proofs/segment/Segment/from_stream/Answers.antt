use Rattle.std.proofs.Common.{◌≡◌, ◌*◌, subst, sym, ◌∙◌}
use Rattle.ntfe_model.specs.Charts.{Patch}
use Rattle.shared_stream.specs.Segments.{IsSegment}
use Rattle.shared_stream.proofs.TakenItems.{told}
use Rattle.shared_stream.proofs.segment.Segment.from_stream.Goals as goal

pub invariant_of-result : goal.invariant_of-result
invariant_of-result c =
    let t = c.in_ok-items.ensures.items (256 * c.args.number) c.requires.stands in
    let P : Patch → Type 0 = λ h. IsSegment (record { patch = h; number = c.args.number; items = c.in_ok-items.items.items; ended = c.is_none-ended.result }) in
    let p = c.in_ok-items.ensures.patch in
    let same : c.in_ok-chart.chart ≡ c.args.stream.now.patch = c.in_ok-chart.ensures ∙ c.chart.ensures.patch ∙ c.in_ok-next.ensures.patch ∙ p in
    subst P (sym same) (record {
      segment = c.requires.segment;
      items = t.items;
      ended = told c.args.stream.now.patch (256 * c.args.number) c.next_items.new.stream c.next.new.self c.in_ok-next.field-0 c.is_none-ended.result c.in_ok-items.items.items p c.in_ok-next.ensures.answer c.is_none-ended.ensures t;
    })
