use Rattle.std.proofs.Common.{sym}
use Rattle.shared_stream.proofs.LentRows.{rows_same, all_kept, fetched}
use Rattle.shared_stream.proofs.shelf_book.ShelfBookBook.fetch.Goals as goal

pub invariant_of-self : goal.invariant_of-self
invariant_of-self c =
    rows_same c.self.inside.shelf.now c.self.inside.rows.items c.args.self.now c.args.face c.index_mut-row.result.now c.fetch.new.self
    (record { each = c.self.invariant; book = sym c.self.view_is; within = c.requires.face; at = c.index_mut-row.ensures.value }) c.fetch.ensures.patch

pub invariant_of-self-2 : goal.invariant_of-self-2
invariant_of-self-2 c =
    rows_same c.self.inside.shelf.now c.self.inside.rows.items c.args.self.now c.args.face c.index_mut-row.result.now c.fetch.new.self
    (record { each = c.self.invariant; book = sym c.self.view_is; within = c.requires.face; at = c.index_mut-row.ensures.value }) c.fetch.ensures.patch

pub returns-clause-kept : goal.returns-clause-kept
returns-clause-kept c =
    all_kept c.self.inside.shelf.now c.self.inside.rows.items c.args.self.now c.args.face c.index_mut-row.result.now c.fetch.new.self
    (record { each = c.self.invariant; book = sym c.self.view_is; within = c.requires.face; at = c.index_mut-row.ensures.value }) c.fetch.ensures.kept

pub returns-clause-answer : goal.returns-clause-answer
returns-clause-answer c =
    fetched c.self.inside.shelf.now c.self.inside.rows.items c.args.self.now c.args.face c.args.number c.index_mut-row.result.now c.fetch.new.self c.in_ok-found.found
    (record { each = c.self.invariant; book = sym c.self.view_is; within = c.requires.face; at = c.index_mut-row.ensures.value }) c.in_ok-found.ensures.answer
