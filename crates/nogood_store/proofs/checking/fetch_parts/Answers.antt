use Rattle.nogood_store.proofs.Fetched.{part_more, parts_all, when_found}
use Rattle.ntfe_model.proofs.Books.{keeps_all_in_turn}
use Rattle.nogood_store.proofs.checking.fetch_parts.Goals as goal

pub loop-part-preserved : goal.loop-part-preserved
loop-part-preserved g c =
    let before = g.B.Book.keeps c.loop-part.book in
    let after = g.B.Book.keeps c.fetch_part.new.book in
    let shape = c.args.geometry.now in (
      c.fetch_part.ensures.shape,
      keeps_all_in_turn (g.B.Book.keeps c.args.book.now) before after c.loop-part.invariant.1 c.fetch_part.ensures.kept,
      part_more before after shape c.args.parts.now c.loop-part.part-index c.fetch_part.ensures.kept c.loop-part-test.true c.loop-part.invariant.2
          (when_found after shape _ _ c.in_ok-fetch_part.ensures.fetched c.if-not-branch.false),
    )

pub returns-clause-fetched : goal.returns-clause-fetched
returns-clause-fetched g c = parts_all (g.B.Book.keeps c.loop-part.book) c.args.geometry.now c.args.parts.now c.loop-part.part-index c.loop-part-test.false c.loop-part.invariant.2
