use Rattle.std.proofs.Common.{sym, ◌∙◌, subst}
use Rattle.std.proofs.lemmas.Result.{err_from_is_err_and, on_ok_weaker, IfErr-weaker}
use Rattle.steal_workers.specs.Listings.{Listed, HasServed, EndsAs}
use Rattle.steal_workers.specs.Pools.{IsListedBy}
use Rattle.steal_workers.specs.Tallies.{Counts, IsSameShare}
use Rattle.steal_workers.proofs.FoundKeys.{same_tally_then, same_share, left_share}
use Rattle.steal_workers.proofs.pool.Pool.write_outcomes.Goals as goal

pub serve_turn-requires-clause-own : goal.serve_turn-requires-clause-own
serve_turn-requires-clause-own g c = subst (λ (l : Listed). IsListedBy c.args.self.now l) (sym c.loop.invariant.listed) c.requires.own

pub returns-in_err-serve_turn-clause-ends : goal.returns-in_err-serve_turn-clause-ends
returns-in_err-serve_turn-clause-ends g c =
    let p = err_from_is_err_and c.from_residual.result c.from_residual.ensures.1 in
    let i = c.loop.invariant in
    rw (p.1, p.2)
    (λ earlier h. subst (λ (l : Listed). HasServed l (record { before = earlier; after = g.K.Sink.taken c.serve_turn.new.out }) c.in_err-serve_turn.field-0.0) i.listed (c.in_err-serve_turn.ensures.ends earlier (i.on earlier h)))

pub serve_turn-requires-clause-place : goal.serve_turn-requires-clause-place
serve_turn-requires-clause-place g c = c.loop.invariant.place

pub returns-in-Done-clause-on : goal.returns-in-Done-clause-on
returns-in-Done-clause-on g c earlier h = c.in_ok-serve_turn.ensures.on earlier (c.loop.invariant.on earlier h)

pub returns-in-Done-clause-done : goal.returns-in-Done-clause-done
returns-in-Done-clause-done g c = c.in_ok-serve_turn.ensures.done c.in-Done.is

pub returns-in-Done-clause-tally : goal.returns-in-Done-clause-tally
returns-in-Done-clause-tally g c = same_share (same_tally_then c.args.mine.now c.loop.mine c.serve_turn.new.mine c.loop.invariant.tally c.serve_turn.ensures.tally)

pub returns-in_err-serve_turn-clause-tally : goal.returns-in_err-serve_turn-clause-tally
returns-in_err-serve_turn-clause-tally g c = same_share (same_tally_then c.args.mine.now c.loop.mine c.serve_turn.new.mine c.loop.invariant.tally c.serve_turn.ensures.tally)

pub go_on_alone-requires-clause-own : goal.go_on_alone-requires-clause-own
go_on_alone-requires-clause-own g c = subst (λ (l : Listed). IsListedBy c.args.self.now l) (sym (c.serve_turn.ensures.listed ∙ c.loop.invariant.listed)) c.requires.own

pub go_on_alone-requires-clause-place : goal.go_on_alone-requires-clause-place
go_on_alone-requires-clause-place g c = c.in_ok-serve_turn.ensures.place

pub returns-in-Foreign-clause-on : goal.returns-in-Foreign-clause-on
returns-in-Foreign-clause-on g c = on_ok_weaker c.go_on_alone.result (λ on earlier h. on earlier (c.in_ok-serve_turn.ensures.on earlier (c.loop.invariant.on earlier h))) c.go_on_alone.ensures.on

pub returns-in-Foreign-clause-ends : goal.returns-in-Foreign-clause-ends
returns-in-Foreign-clause-ends g c =
    let w = c.args.writer.now in
    let now = g.K.Sink.taken c.go_on_alone.new.out in
    IfErr-weaker c.go_on_alone.result (EndsAs c.serve_turn.new.writer (record { before = g.K.Sink.taken c.serve_turn.new.out; after = now })) (EndsAs w (record { before = g.K.Sink.taken c.args.out.now; after = now }))
    (λ s ends earlier h.
    subst (λ (l : Listed). HasServed l (record { before = earlier; after = now }) s) (c.serve_turn.ensures.listed ∙ c.loop.invariant.listed)
    (ends earlier (c.in_ok-serve_turn.ensures.on earlier (c.loop.invariant.on earlier h))))
    c.go_on_alone.ensures.ends

pub returns-in-Foreign-clause-tally : goal.returns-in-Foreign-clause-tally
returns-in-Foreign-clause-tally g c =
    subst (λ (t : Counts). IsSameShare c.args.mine.now t) (sym c.leave_board.ensures)
    (left_share (same_tally_then c.args.mine.now c.loop.mine c.serve_turn.new.mine c.loop.invariant.tally c.serve_turn.ensures.tally))
