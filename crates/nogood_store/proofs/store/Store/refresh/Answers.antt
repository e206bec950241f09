use Rattle.std.proofs.Common.{refl, sym, subst, arith}
use mir.Val.{bool_byte}
use Rattle.nogood_store.specs.Receipts.{Adds}
use Rattle.ntfe_model.proofs.Books.{keeps_all_in_turn}
use Rattle.nogood_store.proofs.Taken.{nothing_found, looks, looks_count, adds}
use Rattle.nogood_store.proofs.store.Store.refresh.Goals as goal

pub loop-turn-init : goal.loop-turn-init
loop-turn-init g c = (c.requires, (λ f n x e. e), nothing_found c.args.self.now c.args.geometry.now c.args.reader.now c.args.set.now, omega arith, omega arith)

pub loop-turn-preserved : goal.loop-turn-preserved
loop-turn-preserved g c =
    let k = rw c.in-Some.is at c.in_ok-is.ensures.some in
    let store = c.args.self.now in
    let shape = c.args.geometry.now in
    let n = looks_count store shape _ _ _ _ _ _ bool_byte k c.from-added.ensures refl refl in (
      c.look.ensures.shape,
      keeps_all_in_turn (g.B.Book.keeps c.args.book.now) (g.B.Book.keeps c.loop-turn.book) (g.B.Book.keeps c.look.new.book) c.loop-turn.invariant.1 c.look.ensures.kept,
      looks store shape _ _ _ _ _ _ _ c.loop-turn.invariant.2 k,
      omega (arith, n.0, c.loop-turn.invariant.3),
      omega (arith, n.1, c.loop-turn.invariant.4),
    )

pub returns-in_err-is-clause-added : goal.returns-in_err-is-clause-added
returns-in_err-is-clause-added g c =
    subst (Adds c.args.geometry.now c.args.set.now) (sym c.in_err-is.ensures.err.1) (adds c.args.self.now c.args.geometry.now c.args.reader.now c.loop-turn.reader c.args.set.now c.loop-turn.set c.loop-turn.invariant.2)

pub returns-after-loop-turn-clause-added : goal.returns-after-loop-turn-clause-added
returns-after-loop-turn-clause-added g c = adds c.args.self.now c.args.geometry.now c.args.reader.now c.loop-turn.reader c.args.set.now c.loop-turn.set c.loop-turn.invariant.2

pub returns-in_default-clause-added : goal.returns-in_default-clause-added
returns-in_default-clause-added g c =
    subst (Adds c.args.geometry.now c.args.set.now) (sym (rw c.in_default.is at c.in_ok-is.ensures.none).1) (adds c.args.self.now c.args.geometry.now c.args.reader.now c.loop-turn.reader c.args.set.now c.loop-turn.set c.loop-turn.invariant.2)
