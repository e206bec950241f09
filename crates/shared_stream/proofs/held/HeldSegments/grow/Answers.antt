use Rattle.std.proofs.Common.{◌≡◌, ◌∙◌, ap, sym, subst, arith, length, map}
use Rattle.std.proofs.lemmas.List.{length-map}
use Rattle.shared_stream.specs.Segments.{HasSegment}
use Rattle.shared_stream.specs.Held.{FirstStretches, stretch_of}
use Rattle.shared_stream.proofs.HeldLemmas.{not_there}
use Rattle.shared_stream.proofs.held.HeldSegments.grow.Goals as goal

pub returns-in-Past-clause-answer : goal.returns-in-Past-clause-answer
returns-in-Past-clause-answer c =
    let none = not_there c.self.inside.cells.now c.len-number.result c.in_ok-segment.field-0 c.in-Past.segments c.in_ok-segment.ensures c.in-Past.is in
    let P : FirstStretches → Type 0 = λ r. HasSegment r.patch (length r.stretches) → ⊥ in
    let count : c.len-number.result ≡ length (map stretch_of c.self.inside.held.items) = (let m = length-map c.self.inside.held.items stretch_of in let k = ap length c.in_ok-reserve.ensures.items in omega (arith, m, k)) in (
      ap (map stretch_of) c.in_ok-reserve.ensures.items ∙ ap (λ r. r.stretches) c.self.view_is,
      subst P c.self.view_is (λ has. none (subst (HasSegment c.self.inside.cells.now) (sym count) has)),
    )
