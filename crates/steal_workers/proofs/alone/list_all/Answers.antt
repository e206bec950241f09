use Rattle.std.proofs.Common.{refl, sym, ap, ◌∙◌, subst, arith, inl, inr, ⊎_elim, Bool, ℕ, List}
use Rattle.std.specs.Prelude.{Option}
use Rattle.std.proofs.lemmas.Result.{err_from_is_err_and}
use Rattle.ntfe_model.specs.Shapes.{Shape}
use Rattle.steal_workers.specs.Listings.{Listed, HasServed, NoneIsLeft}
use Rattle.steal_workers.specs.Boards.{HasSettledLeast}
use Rattle.steal_workers.specs.Probing.{Probes}
use Rattle.steal_workers.proofs.Ends.{part_written}
use Rattle.steal_workers.proofs.HandedOut.{settled_abreast, over, none_left}
use Rattle.steal_workers.proofs.Settled.{left_falls}
use Rattle.steal_workers.proofs.alone.list_all.Goals as goal

pub loop-writer-init : goal.loop-writer-init
loop-writer-init g c = (λ earlier h. h, c.requires.abreast, refl, refl, refl, (let n = g.K.Sink.faults c.args.out.now in omega arith))

pub returns-in_err-write_ready-clause-ends : goal.returns-in_err-write_ready-clause-ends
returns-in_err-write_ready-clause-ends g c =
    let p = err_from_is_err_and c.from_residual.result c.from_residual.ensures.1 in
    let i = c.loop-writer.invariant in
    rw (p.1, p.2)
    (λ earlier h.
    subst (λ (l : Listed). HasServed l (record { before = earlier; after = g.K.Sink.taken c.write_ready.new.out }) c.in_err-write_ready.field-0.0) i.2 (c.in_err-write_ready.ensures.ends earlier (i.0 earlier h)))

pub loop-writer-smaller : goal.loop-writer-smaller
loop-writer-smaller g c =
    let i = c.loop-writer.invariant in
    let t = c.write_ready.new.board in
    let u = c.settle_least.new.board in
    let one = subst (λ (b : Bool). HasSettledLeast t u b) c.in-Ok-true.field-0-test c.in-Ok-true.ensures.settled in
    let fewer = c.in_ok-write_ready.ensures.fewer in
    left_falls c.args.prober.now.geometry c.loop-writer.board t u (fewer.geometry ∙ i.1.under_way.geometry ∙ ap (λ (l : Listed). l.geometry) i.2 ∙ sym c.requires.geometry) fewer.open_keys one

pub loop-writer-preserved : goal.loop-writer-preserved
loop-writer-preserved g c =
    let i = c.loop-writer.invariant in
    let w = c.write_ready.new.writer in
    let t = c.write_ready.new.board in
    let u = c.settle_least.new.board in
    let one = subst (λ (b : Bool). HasSettledLeast t u b) c.in-Ok-true.field-0-test c.in-Ok-true.ensures.settled in
    let listed = c.write_ready.ensures.listed ∙ i.2 in
    let own = ap (λ (l : Listed). l.geometry) listed ∙ sym c.requires.geometry ∙ sym (ap (λ (p : Probes). p.geometry) i.3) in
    let wide = ap (λ (l : Listed). l.width) listed ∙ sym c.requires.width ∙ sym (ap (λ (p : Probes). p.width) i.3) in (
      λ earlier h. c.in_ok-write_ready.ensures.on earlier (i.0 earlier h),
      settled_abreast w t u c.in_ok-write_ready.ensures.abreast c.settle_least.ensures.sound one (λ under. c.in-Ok-true.ensures.under_way w.listed own wide under),
      listed,
      c.settle_least.ensures.same ∙ i.3,
      c.settle_least.ensures.book ∙ i.4,
      (let p = i.5 in let q = c.write_ready.ensures.later in omega (arith, p, q)),
    )

pub returns-in-Ok-false-clause-done : goal.returns-in-Ok-false-clause-done
returns-in-Ok-false-clause-done g c =
    let a = c.in_ok-write_ready.ensures.abreast in
    let t = c.write_ready.new.board in
    let w = c.write_ready.new.writer in
    let none = subst (λ (b : Bool). HasSettledLeast t c.settle_least.new.board b) c.in-Ok-false.field-0-test c.in-Ok-false.ensures.settled in
    ⊎_elim (λ full. inl full)
    (λ waits. inr (subst (λ (x : Shape × Option (List ℕ)). NoneIsLeft x.0 x.1) (λ k. (a.under_way.geometry k, a.last k)) (none_left t a.sound (over t a.sound waits a.running.not_stopped none.1))))
    c.in_ok-write_ready.ensures.done

pub returns-in-Err-clause-ends : goal.returns-in-Err-clause-ends
returns-in-Err-clause-ends g c earlier h =
    let i = c.loop-writer.invariant in
    let listed = c.write_ready.ensures.listed ∙ i.2 in
    subst (λ (l : Listed). Rattle.steal_workers.specs.Listings.TakesPart l (record { before = earlier; after = g.K.Sink.taken c.write_ready.new.out })) listed
    (part_written c.write_ready.new.writer (record { before = earlier; after = g.K.Sink.taken c.write_ready.new.out }) (c.in_ok-write_ready.ensures.on earlier (i.0 earlier h)))

pub returns-in_err-write_ready-clause-same : goal.returns-in_err-write_ready-clause-same
returns-in_err-write_ready-clause-same g c = c.loop-writer.invariant.3

pub returns-in-Ok-false-clause-same : goal.returns-in-Ok-false-clause-same
returns-in-Ok-false-clause-same g c = c.settle_least.ensures.same ∙ c.loop-writer.invariant.3

pub returns-in-Err-clause-same : goal.returns-in-Err-clause-same
returns-in-Err-clause-same g c = c.settle_least.ensures.same ∙ c.loop-writer.invariant.3
