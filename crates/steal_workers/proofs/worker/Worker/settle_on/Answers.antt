use Rattle.std.proofs.Common.{sym, ap, ◌∙◌}
use Rattle.steal_workers.specs.Probing.{Probes}
use Rattle.steal_workers.proofs.FoundKeys.{found_at}
use Rattle.steal_workers.proofs.worker.Worker.settle_on.Goals as goal

pub settle_all-requires-clause-found : goal.settle_all-requires-clause-found
settle_all-requires-clause-found g c =
    found_at c.self.inside.geometry.now c.args.board.now.board.geometry c.self.inside.prober.width c.args.board.now.width c.self.inside.found.items
    (sym c.self.invariant.geometry ∙ ap (λ (p : Probes). p.geometry) c.self.view_is ∙ sym c.requires.geometry) (ap (λ (p : Probes). p.width) c.self.view_is ∙ sym c.requires.width) c.self.invariant.found

pub invariant_of-self : goal.invariant_of-self
invariant_of-self g c = record {
  geometry = c.self.invariant.geometry;
  book = c.self.invariant.book;
  set = c.self.invariant.set;
  found = found_at c.args.board.now.board.geometry c.self.inside.geometry.now c.args.board.now.width c.self.inside.prober.width c.settle_all.new.found.items
      (c.requires.geometry ∙ sym (ap (λ (p : Probes). p.geometry) c.self.view_is) ∙ c.self.invariant.geometry) (c.requires.width ∙ sym (ap (λ (p : Probes). p.width) c.self.view_is)) c.settle_all.ensures.found;
}

pub invariant_of-self-then-not-branch : goal.invariant_of-self-then-not-branch
invariant_of-self-then-not-branch g c = record {
  geometry = c.self.invariant.geometry;
  book = c.self.invariant.book;
  set = c.self.invariant.set;
  found = found_at c.args.board.now.board.geometry c.self.inside.geometry.now c.args.board.now.width c.self.inside.prober.width c.settle_all.new.found.items
      (c.requires.geometry ∙ sym (ap (λ (p : Probes). p.geometry) c.self.view_is) ∙ c.self.invariant.geometry) (c.requires.width ∙ sym (ap (λ (p : Probes). p.width) c.self.view_is)) c.settle_all.ensures.found;
}

pub invariant_of-self-else-not-branch : goal.invariant_of-self-else-not-branch
invariant_of-self-else-not-branch g c = record {
  geometry = c.self.invariant.geometry;
  book = c.self.invariant.book;
  set = c.self.invariant.set;
  found = found_at c.args.board.now.board.geometry c.self.inside.geometry.now c.args.board.now.width c.self.inside.prober.width c.settle_all.new.found.items
      (c.requires.geometry ∙ sym (ap (λ (p : Probes). p.geometry) c.self.view_is) ∙ c.self.invariant.geometry) (c.requires.width ∙ sym (ap (λ (p : Probes). p.width) c.self.view_is)) c.settle_all.ensures.found;
}
