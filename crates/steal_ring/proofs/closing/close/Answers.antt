use Rattle.std.proofs.Common.{◌≡◌, [], ◌∷◌, ◌++◌, length, ap, arith, sym, ◌∙◌, rules}
use Rattle.crossbeam_deque.specs.Handles.{worker_deque, worker_view, stealer_deque, view, taken}
use Rattle.steal_ring.specs.Seats.{SeatView, VictimView, got}
use Rattle.steal_ring.specs.Conservation.{weigh}
use Rattle.steal_ring.proofs.Rings.{begins_close, meets, step_close, ends_close, length_got}
use Rattle.steal_ring.proofs.closing.close.Goals as goal

pub loop-seat-init : goal.loop-seat-init
loop-seat-init c =
    let d : VictimView = record { deque = (stealer_deque c.victim.inside.thief).0; stolen = (view c.victim.inside.pass).taken; seen = taken c.victim.inside.pass } in
    let own = c.last.inside.own in
    let seat = λ (r : VictimView). let s : SeatView = record { number = c.last.inside.number; alone = c.last.inside.alone; own = (worker_deque own).0; right = r; put = (worker_view own).put; popped = (worker_view own).taken } in s in
    let is : seat d ≡ c.in-Some.last = ap seat c.victim.view_is ∙ c.last.view_is in
    let e : c.args.seats ≡ c.pop.new.self.items ++ seat d ∷ [] = sym c.into_vec-seats.ensures ∙ c.in-Some.ensures.items ∙ ap (λ (s : SeatView). c.pop.new.self.items ++ s ∷ []) (sym is) in
    let pushed : c.last.inside.pushed ≡ length (worker_view own).put = omega (arith, c.last.invariant.2) in
    let gets : c.last.inside.got ≡ length (got (seat d)) = omega (arith, c.last.invariant.3, length_got (seat d), ap (λ (r : VictimView). length r.stolen) c.victim.view_is) in
    (begins_close c.args.seats c.pop.new.self.items c.new-keys.result.items (seat d) c.last.inside.pushed c.last.inside.got c.requires e c.new-keys.ensures.items pushed gets (omega (arith, c.last.invariant.4)) (omega (arith, c.last.invariant.5)), c.last.invariant.0, c.last.invariant.1)

pub drain-requires : goal.drain-requires
drain-requires c =
    let i = c.loop-seat.invariant in
    let e = c.in-Some-pop.ensures.items ∙ ap (λ (s : SeatView). c.pop-in-loop-seat.new.self.items ++ s ∷ []) (sym c.seat.view_is) in
    (i.1, i.2, meets _ _ _ _ _ _ _ _ _ _ _ _ i.0 e)

pub loop-seat-preserved : goal.loop-seat-preserved
loop-seat-preserved c =
    let i = c.loop-seat.invariant in
    let own = c.seat.inside.own in
    let s : SeatView = record { number = c.seat.inside.number; alone = c.seat.inside.alone; own = (worker_deque own).0; right = c.seat.inside.right; put = (worker_view own).put; popped = (worker_view own).taken } in
    let e : c.loop-seat.seats.items ≡ c.pop-in-loop-seat.new.self.items ++ s ∷ [] = c.in-Some-pop.ensures.items ∙ ap (λ (t : SeatView). c.pop-in-loop-seat.new.self.items ++ t ∷ []) (sym c.seat.view_is) in
    let k = c.in_ok-drain.ensures in
    let gets : c.seat.inside.got ≡ length (got s) = omega (arith, c.seat.invariant.3, length_got s) in
    (step_close _ _ _ _ _ _ _ _ _ _ k.0 _ _ _ _ s i.0 e c.seat.invariant.2 gets c.seat.invariant.4 c.seat.invariant.5 k.1 k.2, c.seat.invariant.0, c.seat.invariant.1)

pub returns : goal.returns
returns c =
    let k = c.in_ok-drain-2.ensures in
    let none : c.loop-seat.seats.items ≡ [] = search rules in
    let e = ends_close _ _ _ _ _ _ _ _ _ k.0 _ _ c.loop-seat.invariant.0 none (c.from_vec.ensures ∙ k.1) (λ h. omega (arith, k.2 h, ap (λ (d : VictimView). weigh h d.stolen) c.victim.view_is)) in
    record { keys = e.0; counts = (e.1, e.2, e.3) }
