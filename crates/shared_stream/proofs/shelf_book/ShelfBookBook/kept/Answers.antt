use Rattle.std.proofs.Common.{sym, subst}
use Rattle.ntfe_model.specs.Charts.{Patch}
use Rattle.ntfe_model.specs.Words.{IsItem}
use Rattle.shared_stream.proofs.HeldLemmas.{some_or}
use Rattle.shared_stream.proofs.LentRows.{read_patch}
use Rattle.shared_stream.proofs.shelf_book.ShelfBookBook.kept.Goals as goal

pub returns-clause-item : goal.returns-clause-item
returns-clause-item c =
    let patch = read_patch c.self.inside.shelf.now c.self.inside.rows.items c.args.self.now c.args.face c.index.result.now (record { each = c.self.invariant; book = sym c.self.view_is; within = c.requires.face; at = c.index.ensures }) in
    some_or c.item.result _ _ _ c.item.ensures.item (λ x i. (let P : Patch → Type 0 = λ h. IsItem h c.args.number x.now in subst P patch i))
