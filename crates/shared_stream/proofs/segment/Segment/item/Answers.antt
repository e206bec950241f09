use Rattle.std.proofs.Common.{◌≡◌, subst, arith, Some}
use Rattle.std.specs.Prelude.{slice_get, ◌%◌}
use Rattle.std.proofs.lemmas.Option.{slice_get_read}
use Rattle.ntfe_model.specs.Words.{IsItem, HasItemAt}
use Rattle.shared_stream.specs.Segments.{Stretch, IsNumberOf, item_in}
use Rattle.shared_stream.proofs.SegmentLemmas.{item_there, item_is, item_none}
use Rattle.shared_stream.proofs.segment.Segment.item.Goals as goal

pub returns-then-place-len-clause-item : goal.returns-then-place-len-clause-item
returns-then-place-len-clause-item c =
    let P : Stretch → Type 0 = λ s. IsNumberOf s c.args.number × HasItemAt s.patch c.args.number → ⊥ in
    subst P c.self.view_is (item_none _ c.args.number c.self.invariant (omega arith))

pub returns-clause-value : goal.returns-clause-value
returns-clause-value c =
    let P : Stretch → Type 0 = λ s. item_in s c.args.number ≡ Some c.index.result.now in
    let e : slice_get c.self.inside.items.items (c.args.number % 256) ≡ Some c.index.result.now = slice_get_read c.self.inside.items.items c.len.result (c.args.number % 256) c.index.result.now (omega arith) (omega arith) c.index.ensures in
    subst P c.self.view_is (item_there (record { patch = c.self.inside.chart; number = c.self.inside.number; items = c.self.inside.items.items; ended = c.self.inside.ended }) c.args.number c.index.result.now (omega arith) e)

pub returns-clause-item : goal.returns-clause-item
returns-clause-item c =
    let P : Stretch → Type 0 = λ s. IsNumberOf s c.args.number × IsItem s.patch c.args.number c.index.result.now in
    let e : slice_get c.self.inside.items.items (c.args.number % 256) ≡ Some c.index.result.now = slice_get_read c.self.inside.items.items c.len.result (c.args.number % 256) c.index.result.now (omega arith) (omega arith) c.index.ensures in
    subst P c.self.view_is (omega arith, item_is (record { patch = c.self.inside.chart; number = c.self.inside.number; items = c.self.inside.items.items; ended = c.self.inside.ended }) c.args.number c.index.result.now c.self.invariant (omega arith) e)
