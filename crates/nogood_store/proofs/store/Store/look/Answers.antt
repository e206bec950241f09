use Rattle.std.proofs.Common.{◌++◌, ◌∷◌, [], ◌∙◌, ap, arith}
use Rattle.nogood_store.proofs.Taken.{reads_on}
use Rattle.nogood_store.proofs.store.Store.look.Goals as goal

pub invariant_of-reader-2 : goal.invariant_of-reader-2
invariant_of-reader-2 g c =
    reads_on c.next_entry.new.reader c.reader.inside.seen.items _ c.in-Some.found _ c.reader.invariant.0 c.in-Some.ensures.some.1 c.reader.view_is
    (c.push_reserved.ensures.items ∙ ap (λ l. l ++ c.in-Some.found ∷ []) c.reserve.ensures.items) (omega (arith, c.index.ensures))
