use Rattle.std.proofs.Common.{sym, ap, ◌∙◌, subst, ℕ, max, List}
use Rattle.std.specs.Prelude.{Option}
use Rattle.steal_workers.specs.Listings.{Progress, IsSmallLimit, TakesAll, TakesDue}
use Rattle.steal_workers.proofs.Ends.{all_written, due_written}
use Rattle.steal_workers.proofs.writer.Writer.finish.Goals as goal

pub returns-in-None-clause-served : goal.returns-in-None-clause-served
returns-in-None-clause-served c bytes h =
    let count = ap (λ (p : Progress). p.count) c.self.view_is in
    let last = ap (λ (p : Progress). p.last) c.self.view_is in
    subst (λ (x : ℕ × Option (List ℕ)). TakesAll c.args.self.listed bytes x.0 x.1) (λ k. (sym count k, sym last k))
    (all_written c.args.self (subst (λ (p : Progress). IsSmallLimit p.listed.limit) c.self.view_is c.self.invariant.small) c.in-None.ensures c.requires bytes h)

pub returns-in-Some-clause-served : goal.returns-in-Some-clause-served
returns-in-Some-clause-served c bytes h =
    let kept = c.form.ensures.kept ∙ ap (λ (p : Progress). p.listed.kept) c.self.view_is in
    let from = c.from.ensures in
    let count = c.max.ensures ∙ (λ k. max (kept k) (from k)) in
    let last = ap (λ (p : Progress). p.last) c.self.view_is in
    subst (λ (x : ℕ × Option (List ℕ)). TakesDue c.args.self.listed bytes x.0 x.1) (λ k. (sym count k, sym last k)) (due_written c.args.self c.in-Some.limit c.in-Some.ensures.0 c.in-Some.ensures.1 bytes h)
