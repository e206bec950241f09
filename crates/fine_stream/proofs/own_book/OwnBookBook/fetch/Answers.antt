use Rattle.std.proofs.Common.{◌≡◌, sym, ap, subst, arith, length, ◌<◌, refl, Some, set}
use Rattle.std.specs.Prelude.{MatchBool}
use Rattle.std.proofs.lemmas.List.{get_or_read}
use Rattle.ntfe_model.specs.Shapes.{Shape}
use Rattle.ntfe_model.specs.Words.{HasItem}
use Rattle.ntfe_model.specs.declared.triangulation.Triangulation.{Triangulation}
use Rattle.fine_stream.specs.Rows.{no_items, kept_item}
use Rattle.fine_stream.proofs.BookLemmas.{fetched}
use Rattle.fine_stream.proofs.own_book.OwnBookBook.fetch.Goals as goal

pub returns-clause-answer : goal.returns-clause-answer
returns-clause-answer c =
    let g = c.self.inside.geometry in
    let shape : g ≡ c.args.self.now.shape = ap (λ b. b.shape) c.self.view_is in
    let L : Shape → Type 0 = λ h. c.args.face < length h.faces in
    let l : c.args.face < length g.faces = subst L (sym shape) c.requires.face in
    let count = c.self.invariant.count in
    let k : c.args.face < length c.self.inside.rows.items = omega arith in
    let f =
    fetched g c.self.inside.rows.items (set c.self.inside.rows.items c.args.face c.fetch.new.self) c.args.face c.args.number c.index_mut-row.result.now c.fetch.new.self c.in_ok-found.found c.self.invariant l refl
    (get_or_read c.self.inside.rows.items c.args.face c.index_mut-row.result.now k c.index_mut-row.ensures.value no_items) c.in_ok-found.ensures.answer in
    let P : Shape → Type 0 = λ h. MatchBool c.in_ok-found.found
    ((x : Triangulation) × (kept_item (record { shape = g; rows = set c.self.inside.rows.items c.args.face c.fetch.new.self }) c.args.face c.args.number ≡ Some x)) (¬ (HasItem h c.args.face c.args.number)) in
    subst P shape f
