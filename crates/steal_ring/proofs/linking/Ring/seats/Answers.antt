use Rattle.std.proofs.Common.{◌≡◌, ◌≤◌, ◌+◌, ◌==◌, ℕ, [], false, refl, ap, arith, sym, subst, ◌∙◌}
use Rattle.std.specs.List.{range_with_len}
use Rattle.crossbeam_deque.specs.Handles.{worker_deque, worker_view, stealer_deque}
use Rattle.steal_ring.specs.Seats.{SeatView, Deque, VictimView, got}
use Rattle.steal_ring.specs.declared.conservation.History.{History}
use Rattle.steal_ring.proofs.Rings.{Linking, links, ends_link, both_empty}
use Rattle.steal_ring.proofs.linking.Ring.seats.Goals as goal

pub loop-number-preserved : goal.loop-number-preserved
loop-number-preserved c =
    let i = c.loop-number.invariant in
    let own = c.loop-number.own in
    let s : SeatView = record { number = c.loop-number.number; alone = false; own = (worker_deque own).0; right = c.in_ok-next.right; put = (worker_view own).put; popped = (worker_view own).taken } in
    let empty : (s.put ≡ []) × (got s ≡ []) = (ap (λ (v : History). v.put) i.2, both_empty s.popped s.right.stolen (ap (λ (v : History). v.taken) i.2) c.in_ok-next.ensures.1) in
    let k = links c.loop-number.seats.items c.push.new.self.items (stealer_deque c.first.inside.thief).0 (worker_deque own).0 c.loop-number.number s i.0 refl refl refl empty c.in_ok-push.ensures.items in
    (subst (λ (d : Deque). Linking c.push.new.self.items (stealer_deque c.first.inside.thief).0 d (c.loop-number.number + 1)) c.in_ok-next.ensures.0 k, c.in_ok-next.ensures.2, c.in_ok-next.ensures.3, omega arith)

pub returns : goal.returns
returns c =
    let i = c.loop-number.invariant in
    let own = c.loop-number.own in
    let first = c.in_ok-own.first in
    let n : c.args.workers ≡ c.loop-number.number = omega arith in
    let few : c.loop-number.number ≤ 16 = omega arith in
    let s : SeatView = record { number = c.loop-number.number; alone = c.args.workers == 1; own = (worker_deque own).0; right = first; put = (worker_view own).put; popped = (worker_view own).taken } in
    let empty : (s.put ≡ []) × (got s ≡ []) = (ap (λ (v : History). v.put) i.2, both_empty s.popped s.right.stolen (ap (λ (v : History). v.taken) i.2) c.in_ok-own.ensures.1) in
    let victim : s.right.deque ≡ (stealer_deque c.first.inside.thief).0 = sym (ap (λ (d : VictimView). d.deque) c.first.view_is) in
    let k = ends_link c.loop-number.seats.items c.from_vec.result (stealer_deque c.first.inside.thief).0 (worker_deque own).0 c.loop-number.number s i.0 few refl victim (ap (λ (m : ℕ). m == 1) n) refl empty (c.from_vec.ensures ∙ c.in_ok-push-2.ensures.items) in
    record { ring = k.0; numbers = k.1 ∙ ap (λ (m : ℕ). range_with_len 1 m) (sym n); fresh = k.2 }
