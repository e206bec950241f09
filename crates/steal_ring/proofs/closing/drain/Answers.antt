use Rattle.std.proofs.Common.{◌≡◌, ap, arith}
use Rattle.steal_ring.specs.declared.conservation.History.{History}
use Rattle.steal_ring.specs.Conservation.{weigh}
use Rattle.steal_ring.proofs.Steps.{merges, last_takes, last_finds, weigh_append}
use Rattle.crossbeam_deque.specs.Handles.{view, worker_view}
use Rattle.steal_ring.proofs.closing.drain.Goals as goal

pub absorb-requires-clause-rule : goal.absorb-requires-clause-rule
absorb-requires-clause-rule c = merges _ _ _ _ (omega (arith, c.requires.1))

pub pop_as-requires-clause-fifo : goal.pop_as-requires-clause-fifo
pop_as-requires-clause-fifo c = λ _. last_takes _ _ c.loop-key.invariant.1

pub pop_as-requires-clause-empty : goal.pop_as-requires-clause-empty
pop_as-requires-clause-empty c = last_finds _ _ c.loop-key.invariant.1

pub returns : goal.returns
returns c =
    let i = c.loop-key.invariant in
    let own = c.args.own in
    let joined = c.absorb.ensures.rule in
    let seen = c.into_pass-pass.ensures.1 in (
      i.3.0,
      i.3.1,
      λ h.
          let last : weigh h (worker_view c.loop-key.own).put ≡ weigh h (worker_view c.loop-key.own).taken = c.in_default.ensures.rule.1 h in
          omega (
            arith,
            last,
            ap (weigh h) i.2,
            ap (weigh h) i.3.2,
            ap (λ (v : History). weigh h v.put) joined,
            ap (λ (v : History). weigh h v.taken) joined,
            weigh_append h (worker_view c.absorb.new.self).taken i.3.0,
            weigh_append h (worker_view own).put (view c.into_pass-pass.result).put,
            weigh_append h (worker_view own).taken (view c.into_pass-pass.result).taken,
            ap (λ (v : History). weigh h v.put) seen,
            ap (λ (v : History). weigh h v.taken) seen,
          ),
    )
