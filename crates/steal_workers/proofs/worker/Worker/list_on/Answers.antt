use Rattle.std.proofs.Common.{sym, ap, ◌∙◌, subst}
use Rattle.std.specs.Prelude.{All}
use Rattle.ntfe_model.specs.Shapes.{Shape}
use Rattle.ntfe_model.specs.Certificates.{IsCertificate}
use Rattle.steal_workers.specs.Probing.{Probes}
use Rattle.steal_workers.specs.Workers.{AreFound}
use Rattle.steal_workers.proofs.worker.Worker.list_on.Goals as goal

pub list_all-requires-clause-book : goal.list_all-requires-clause-book
list_all-requires-clause-book g c = c.self.invariant.book ∙ sym c.self.invariant.geometry

pub list_all-requires-clause-set : goal.list_all-requires-clause-set
list_all-requires-clause-set g c = subst (λ (x : Shape). All (IsCertificate x) c.self.inside.set) (sym c.self.invariant.geometry) c.self.invariant.set

pub invariant_of-self : goal.invariant_of-self
invariant_of-self g c =
    let same = c.list_all.ensures.same in
    record {
      geometry = ap (λ (p : Probes). p.geometry) same ∙ c.self.invariant.geometry;
      book = c.list_all.ensures.book ∙ c.self.invariant.book;
      set = c.self.invariant.set;
      found = subst (λ (p : Probes). AreFound c.self.inside.geometry.now p.width c.self.inside.found.items) (sym same) c.self.invariant.found;
    }
