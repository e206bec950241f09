use Rattle.std.proofs.Common.{◌≡◌, sym, ap, ◌∙◌, subst, Ok}
use Rattle.std.specs.Prelude.{All, Result}
use Rattle.ntfe_model.specs.Shapes.{Shape}
use Rattle.ntfe_model.specs.Certificates.{IsCertificate}
use Rattle.choice_board.specs.Starts.{new_board}
use Rattle.steal_workers.specs.Listings.{Listed, Progress, HasWritten, HasServed}
use Rattle.steal_workers.specs.Boards.{IsAbreast}
use Rattle.steal_workers.specs.Probing.{Probes}
use Rattle.steal_workers.specs.declared.served.Served.{Served}
use Rattle.steal_workers.proofs.Ends.{none_yet}
use Rattle.steal_workers.proofs.HandedOut.{new_abreast}
use Rattle.steal_workers.proofs.alone.list.Goals as goal

pub list_all-requires-clause-abreast : goal.list_all-requires-clause-abreast
list_all-requires-clause-abreast g c =
    let geometry = c.in_ok-geometry.ensures ∙ c.geometry.ensures in
    let start = c.in_ok-start.ensures ∙ c.start.ensures.value in
    subst (λ (p : Progress). IsAbreast p c.in_ok-board.board) (sym c.in_ok-writer.ensures)
    (new_abreast c.args.listing.now c.in_ok-board.board c.in_ok-board.ensures.sound (c.in_ok-board.ensures.value ∙ (λ k. new_board (geometry k) (start k))))

pub list_all-requires-clause-set : goal.list_all-requires-clause-set
list_all-requires-clause-set g c =
    let own = ap (λ (p : Probes). p.geometry) c.in_ok-prober.ensures ∙ c.geometry-2.ensures in
    subst (λ (x : Shape). All (IsCertificate x) c.args.set.now) (sym own) c.requires.set

pub returns-in-Ok-clause-served : goal.returns-in-Ok-clause-served
returns-in-Ok-clause-served g c =
    let a = g.K.Sink.taken c.args.out.now in
    let b = g.K.Sink.taken c.list_all.new.out in
    let none = subst (λ (p : Progress). HasWritten p (record { before = a; after = a })) (sym c.in_ok-writer.ensures) (none_yet c.args.listing.now a) in
    let listed = c.list_all.ensures.listed ∙ ap (λ (p : Progress). p.listed) c.in_ok-writer.ensures in
    subst (λ (l : Listed). HasServed l (record { before = a; after = b }) c.finish.result) listed (c.finish.ensures.served (record { before = a; after = b }) (c.in-Ok.ensures.on a none))

pub returns-in-Ok-clause-cause : goal.returns-in-Ok-clause-cause
returns-in-Ok-clause-cause g c e = absurd (c.finish.ensures.no_fault (inner c.finish.result Served.WriteFault e))
  where
    inner : {T E : Type 0} (x y : T) → (let r : Result T E = Ok x in let s : Result T E = Ok y in r ≡ s) → x ≡ y
    inner x y q = cc

pub returns-clause-served : goal.returns-clause-served
returns-clause-served g c =
    let a = g.K.Sink.taken c.args.out.now in
    let b = g.K.Sink.taken c.list_all.new.out in
    let none = subst (λ (p : Progress). HasWritten p (record { before = a; after = a })) (sym c.in_ok-writer.ensures) (none_yet c.args.listing.now a) in
    subst (λ (l : Listed). HasServed l (record { before = a; after = b }) c.in-Err.served) (ap (λ (p : Progress). p.listed) c.in_ok-writer.ensures) (c.in-Err.ensures.ends a none)
