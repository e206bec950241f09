use Rattle.std.proofs.Common.{◌/◌, ◌<◌, ap, sym, subst, arith, length, ◌∙◌}
use Rattle.ntfe_model.specs.Charts.{Patch}
use Rattle.ntfe_model.specs.Words.{IsItem, HasItemAt}
use Rattle.shared_stream.proofs.HeldLemmas.{at_place, none_or, some_or}
use Rattle.shared_stream.proofs.held.HeldSegments.item.Goals as goal

pub returns-clause-item : goal.returns-clause-item
returns-clause-item c =
    let l : c.args.number / 256 < length c.self.inside.held.items = omega arith in
    let at = at_place c.self.inside.cells.now c.self.inside.held.items (c.args.number / 256) c.index.result.now c.segment.result.now c.self.invariant l c.index.ensures c.segment.ensures in
    some_or c.item.result _ _ _ c.item.ensures.item (λ x i. (let Q : Patch → Type 0 = λ h. IsItem h c.args.number x.now in subst Q (at.0.1 ∙ ap (λ r. r.patch) c.self.view_is) i.1))

pub returns-clause-none : goal.returns-clause-none
returns-clause-none c =
    let l : c.args.number / 256 < length c.self.inside.held.items = omega arith in
    let at = at_place c.self.inside.cells.now c.self.inside.held.items (c.args.number / 256) c.index.result.now c.segment.result.now c.self.invariant l c.index.ensures c.segment.ensures in
    none_or c.item.result _ _ _ c.item.ensures.item (λ no held has. (let Q : Patch → Type 0 = λ h. HasItemAt h c.args.number in no (sym at.0.0, subst Q (sym (at.0.1 ∙ ap (λ r. r.patch) c.self.view_is)) has)))
