use Rattle.std.proofs.Common.{◌≡◌, ◌∙◌, sym, [], ◌∷◌, ◌++◌}
use Rattle.steal_workers.specs.Probing.{IsVerdictOn}
use Rattle.steal_workers.specs.declared.found_keys.FoundKey.{FoundKey}
use Rattle.steal_workers.proofs.FoundKeys.{more_found, verdict_at}
use Rattle.steal_workers.proofs.worker.Worker.work_next.Goals as goal

pub invariant_of-self-3 : goal.invariant_of-self-3
invariant_of-self-3 g c =
    let e : c.self-2.inside.prober ≡ c.self.inside.prober = c.self-2.view_is ∙ c.hold_opened.ensures ∙ c.share.ensures ∙ c.find.ensures.same in
    let x : FoundKey = record { key = c.in-Some.key; verdict = c.in_ok-verdict.verdict } in
    let i : c.push_back.new.self.items ≡ c.self-2.inside.found.items ++ x ∷ [] = c.in_ok-push_back.ensures.items in
    let v : IsVerdictOn c.self.inside.prober.geometry c.self.inside.prober.width c.in-Some.key c.in_ok-verdict.verdict = c.in_ok-verdict.ensures.verdict in
    record {
      geometry = c.self-2.invariant.geometry;
      book = c.self-2.invariant.book;
      set = c.self-2.invariant.set;
      found = more_found c.self-2.inside.geometry.now c.self-2.inside.prober.width x c.self-2.inside.found.items c.push_back.new.self.items i c.self-2.invariant.found
          (verdict_at c.self.inside.prober c.self-2.inside.prober c.self-2.inside.geometry.now x (sym e) c.self-2.invariant.geometry v);
    }
