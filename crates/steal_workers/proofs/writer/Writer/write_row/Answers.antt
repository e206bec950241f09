use Rattle.std.proofs.Common.{refl, ◌∙◌, subst, arith}
use Rattle.std.proofs.lemmas.Result.{err_from_is_err_and}
use Rattle.steal_workers.specs.Listings.{Listed, HasServed}
use Rattle.steal_workers.specs.Shared.{IsRow}
use Rattle.steal_workers.proofs.HandedOut.{moved_listed}
use Rattle.steal_workers.proofs.LaterStarts.{moved_place}
use Rattle.steal_workers.proofs.Rows.{rest_row}
use Rattle.steal_workers.proofs.writer.Writer.write_row.Goals as goal

pub loop-row-init : goal.loop-row-init
loop-row-init g c = record {
  on = λ earlier h. h;
  listed = refl;
  place = c.requires.place;
  row = c.requires.row;
  later = (let n = g.K.Sink.faults c.args.out.now in omega arith);
}

pub write-requires-clause-next : goal.write-requires-clause-next
write-requires-clause-next g c =
    let w = c.loop-row.self in
    (subst (IsRow w.listed w.last) c.in-Some.ensures c.loop-row.invariant.row).0

pub loop-row-preserved : goal.loop-row-preserved
loop-row-preserved g c =
    let i = c.loop-row.invariant in
    let w = c.loop-row.self in
    let moved = c.in_ok-write.ensures.moved in
    let row = subst (IsRow w.listed w.last) c.in-Some.ensures i.row in
    record {
      on = λ earlier h. c.in_ok-write.ensures.on earlier (i.on earlier h);
      listed = moved_listed w c.write.new.self c.in-Some.outcome moved ∙ i.listed;
      place = moved_place w c.write.new.self c.in-Some.outcome i.place row.0 row.1 moved;
      row = rest_row w c.write.new.self c.in-Some.outcome c.pop.new.self row moved;
      later = (let p = i.later in let q = c.write.ensures.later in omega (arith, p, q));
    }

pub returns-in_err-write-clause-ends : goal.returns-in_err-write-clause-ends
returns-in_err-write-clause-ends g c =
    let p = err_from_is_err_and c.from_residual.result c.from_residual.ensures.1 in
    let i = c.loop-row.invariant in
    rw (p.1, p.2)
    (λ earlier h. subst (λ (l : Listed). HasServed l (record { before = earlier; after = g.K.Sink.taken c.write.new.out }) c.in_err-write.field-0.0) i.listed (c.in_err-write.ensures.ends earlier (i.on earlier h)))
