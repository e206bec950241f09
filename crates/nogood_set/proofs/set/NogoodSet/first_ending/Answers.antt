use Rattle.std.proofs.Common.{refl, sym, ap, ◌∙◌, subst}
use Rattle.std.specs.Option.{option_or}
use Rattle.nogood_set.proofs.Chains.{kept}
use Rattle.nogood_set.proofs.Walks.{Walked, starts, walks, falls_next, walked}
use Rattle.nogood_set.proofs.set.NogoodSet.first_ending.Goals as goal

pub loop-next-init : goal.loop-next-init
loop-next-init c = starts _ _ _ _ _ _ _ (kept _ _ _ _ _ _ _ (sym c.self.view_is) refl (λ _. refl) c.self.invariant) (c.copied-next.ensures ∙ c.get.ensures.value)

pub loop-next-smaller : goal.loop-next-smaller
loop-next-smaller c = falls_next _ _ _ _ _ _ _ _ _ _ _ (kept _ _ _ _ _ _ _ (sym c.self.view_is) refl (λ _. refl) c.self.invariant) c.loop-next.invariant c.in-Some.is c.index-next.ensures

pub loop-next-preserved : goal.loop-next-preserved
loop-next-preserved c =
    subst (Walked _ _ _ _) (sym (c.or-first.ensures ∙ ap (λ o. option_or o c.loop-next.first) c.then_some-blocking.ensures))
    (walks _ _ _ _ _ _ _ _ _ _ _ _ (kept _ _ _ _ _ _ _ (sym c.self.view_is) refl (λ _. refl) c.self.invariant) (rw c.in-Some.is at c.loop-next.invariant) c.index-next.ensures c.entry.ensures c.is_blocked.ensures)

pub returns-clause-first : goal.returns-clause-first
returns-clause-first c = walked _ _ _ _ (rw c.in_default.is at c.loop-next.invariant)
