use Rattle.std.proofs.Common.{◌+◌, ◌*◌, ap, subst, ◌∙◌, arith}
use Rattle.std.proofs.lemmas.Option.{slice_get_read}
use Rattle.ntfe_model.specs.Words.{IsItem}
use Rattle.shared_stream.specs.Segments.{Stretch}
use Rattle.shared_stream.proofs.SegmentLemmas.{is_whole}
use Rattle.shared_stream.proofs.segment.Segment.last.Goals as goal

pub index-requires : goal.index-requires
index-requires c =
    let l = is_whole _ c.self.invariant (ap (λ s. s.ended) c.self.view_is ∙ c.requires) in
    omega (arith, l)

pub returns : goal.returns
returns c =
    let P : Stretch → Type 0 = λ s. IsItem s.patch (256 * s.number + 255) c.index.result.now in
    let l = is_whole _ c.self.invariant (ap (λ s. s.ended) c.self.view_is ∙ c.requires) in
    subst P c.self.view_is (c.self.invariant.items.items 255 c.index.result.now (slice_get_read c.self.inside.items.items _ 255 c.index.result.now (omega arith) l c.index.ensures))
