use Rattle.std.proofs.Common.{◌≡◌, sym, subst, inl, inr, ℕ, List, Bool}
use Rattle.std.specs.Prelude.{Option, MatchBool}
use Rattle.std.proofs.lemmas.Result.{err_from_is_err_and}
use Rattle.ntfe_model.specs.RunText.{IsUnderLimit}
use Rattle.steal_workers.specs.Listings.{Listed, IsAtLimit, NoneIsLeft, HasServed}
use Rattle.steal_workers.specs.Shared.{IsRow}
use Rattle.steal_workers.specs.declared.served.Served.{Served}
use Rattle.steal_workers.specs.declared.serving.Turn.{Turn}
use Rattle.steal_workers.proofs.Ends.{part_written}
use Rattle.steal_workers.proofs.pool.Pool.serve_turn.Goals as goal

pub returns-then-is_full-clause-on : goal.returns-then-is_full-clause-on
returns-then-is_full-clause-on g c earlier h = h

pub returns-then-is_full-clause-done : goal.returns-then-is_full-clause-done
returns-then-is_full-clause-done g c e =
    let w = c.args.writer.now in
    inl (subst (λ (b : Bool). MatchBool b (IsAtLimit w.listed.limit w.count) (IsUnderLimit w.listed.limit w.count)) c.if-is_full.true c.is_full.ensures)

pub returns-then-is_full-clause-place : goal.returns-then-is_full-clause-place
returns-then-is_full-clause-place g c = c.requires.place

pub write_row-requires-clause-row : goal.write_row-requires-clause-row
write_row-requires-clause-row g c = subst (λ (x : Listed × Option (List ℕ)). IsRow x.0 x.1 c.look.new.row) (λ i. (c.listing.ensures i, c.last.ensures i)) c.in-Row.ensures

pub write_row-requires-clause-place : goal.write_row-requires-clause-place
write_row-requires-clause-place g c = c.requires.place

pub returns-in_err-write_row-in-Row-clause-ends : goal.returns-in_err-write_row-in-Row-clause-ends
returns-in_err-write_row-in-Row-clause-ends g c =
    let p = err_from_is_err_and c.from_residual.result c.from_residual.ensures.1 in
    rw (p.1, p.2) (λ earlier h. c.in_err-write_row-in-Row.ensures.ends earlier h)

pub returns-in-Row-clause-on : goal.returns-in-Row-clause-on
returns-in-Row-clause-on g c earlier h = c.in_ok-write_row-in-Row.ensures.on earlier h

pub returns-in-Row-clause-place : goal.returns-in-Row-clause-place
returns-in-Row-clause-place g c = c.in_ok-write_row-in-Row.ensures.place

pub returns-in-Row-clause-done : goal.returns-in-Row-clause-done
returns-in-Row-clause-done g c e = absurd (let x : Turn.More ≡ Turn.Done = e in cc)

pub returns-in-Done-clause-on : goal.returns-in-Done-clause-on
returns-in-Done-clause-on g c earlier h = h

pub returns-in-Done-clause-place : goal.returns-in-Done-clause-place
returns-in-Done-clause-place g c = c.requires.place

pub returns-in-Foreign-clause-place : goal.returns-in-Foreign-clause-place
returns-in-Foreign-clause-place g c = c.requires.place

pub returns-in-Foreign-clause-done : goal.returns-in-Foreign-clause-done
returns-in-Foreign-clause-done g c e = absurd (let x : Turn.Foreign ≡ Turn.Done = e in cc)

pub returns-clause-place : goal.returns-clause-place
returns-clause-place g c = c.requires.place

pub returns-clause-done : goal.returns-clause-done
returns-clause-done g c e = absurd (let x : Turn.More ≡ Turn.Done = e in cc)

pub returns-in-Done-clause-done : goal.returns-in-Done-clause-done
returns-in-Done-clause-done g c e = inr (subst (λ (x : Listed × Option (List ℕ)). NoneIsLeft x.0.geometry x.1) (λ i. (c.listing.ensures i, c.last.ensures i)) c.in-Done.ensures)

pub returns-in-Foreign-clause-on : goal.returns-in-Foreign-clause-on
returns-in-Foreign-clause-on g c earlier h = h

pub returns-in_err-wait_or_help-clause-ends : goal.returns-in_err-wait_or_help-clause-ends
returns-in_err-wait_or_help-clause-ends g c =
    let p = err_from_is_err_and c.from_residual-in_err-wait_or_help.result c.from_residual-in_err-wait_or_help.ensures.1 in
    rw (p.1, p.2)
    (λ earlier h. subst (λ (s : Served). HasServed c.args.writer.now.listed (record { before = earlier; after = g.K.Sink.taken c.args.out.now }) s) (sym c.in_err-wait_or_help.ensures.cause)
    (part_written c.args.writer.now (record { before = earlier; after = g.K.Sink.taken c.args.out.now }) h))

pub returns-clause-on : goal.returns-clause-on
returns-clause-on g c earlier h = h
