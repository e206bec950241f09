use Rattle.std.proofs.Common.{◌≡◌, refl, sym, ap, ◌∙◌, subst, inl, ℕ, List, Ok}
use Rattle.std.specs.Prelude.{Option, Result}
use Rattle.ntfe_model.specs.Shapes.{Shape}
use Rattle.ntfe_model.specs.Keys.{IsStart}
use Rattle.steal_workers.specs.Boards.{IsPlace}
use Rattle.steal_workers.specs.Listings.{Listed, Progress, HasWritten, HasServed}
use Rattle.steal_workers.specs.Pools.{Pooled, IsListedBy}
use Rattle.steal_workers.specs.declared.served.Served.{Served}
use Rattle.steal_workers.proofs.Ends.{none_yet}
use Rattle.steal_workers.proofs.pool.Pool.write_listing.Goals as goal

pub write_outcomes-requires-clause-own : goal.write_outcomes-requires-clause-own
write_outcomes-requires-clause-own g c = subst (λ (p : Progress). IsListedBy c.args.self.now p.listed) (sym c.in_ok-writer.ensures) c.requires.own

pub write_outcomes-requires-clause-place : goal.write_outcomes-requires-clause-place
write_outcomes-requires-clause-place g c =
    let own = c.requires.own in
    let near = subst (λ (p : Pooled). IsStart p.geometry p.start) c.self.view_is c.self.invariant.start in
    subst (λ (p : Progress). IsPlace p.listed p.last) (sym c.in_ok-writer.ensures) record {
      from = inl refl;
      near = subst (λ (x : Shape × Option (List ℕ)). IsStart x.0 x.1) (λ i. (sym own.geometry i, sym own.start i)) near;
    }

pub returns-in-Ok-clause-served : goal.returns-in-Ok-clause-served
returns-in-Ok-clause-served g c =
    let a = g.K.Sink.taken c.args.out.now in
    let b = g.K.Sink.taken c.write_outcomes.new.out in
    let none = subst (λ (p : Progress). HasWritten p (record { before = a; after = a })) (sym c.in_ok-writer.ensures) (none_yet c.args.listing.now a) in
    let listed = c.write_outcomes.ensures.listed ∙ ap (λ (p : Progress). p.listed) c.in_ok-writer.ensures in
    subst (λ (l : Listed). HasServed l (record { before = a; after = b }) c.finish.result) listed (c.finish.ensures.served (record { before = a; after = b }) (c.in-Ok.ensures.on a none))

pub returns-in-Ok-clause-cause : goal.returns-in-Ok-clause-cause
returns-in-Ok-clause-cause g c e = absurd (c.finish.ensures.no_fault (inner c.finish.result Served.WriteFault e))
  where
    inner : {T E : Type 0} (x y : T) → (let r : Result T E = Ok x in let s : Result T E = Ok y in r ≡ s) → x ≡ y
    inner x y q = cc

pub returns-in-Err-clause-served : goal.returns-in-Err-clause-served
returns-in-Err-clause-served g c =
    let a = g.K.Sink.taken c.args.out.now in
    let b = g.K.Sink.taken c.write_outcomes.new.out in
    let none = subst (λ (p : Progress). HasWritten p (record { before = a; after = a })) (sym c.in_ok-writer.ensures) (none_yet c.args.listing.now a) in
    subst (λ (l : Listed). HasServed l (record { before = a; after = b }) c.in-Err.served) (ap (λ (p : Progress). p.listed) c.in_ok-writer.ensures) (c.in-Err.ensures.ends a none)
