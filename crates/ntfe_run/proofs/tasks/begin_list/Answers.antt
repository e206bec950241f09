use Rattle.std.proofs.Common.{sym, ap, subst}
use Rattle.io_edge.proofs.Pieces.{prefix_none}
use Rattle.class_text.specs.Earlier.{kept_of}
use Rattle.ntfe_run.specs.Statuses.{head_of, IsListEnd}
use Rattle.ntfe_run.specs.Dues.{DueList, due_of}
use Rattle.ntfe_run.proofs.ListEnds.{head_begun, head_failed, head_written}
use Rattle.ntfe_run.proofs.tasks.begin_list.Goals as goal

pub returns-in_default : goal.returns-in_default
returns-in_default g c =
    let due = due_of c.args.options.now c.args.geometry (kept_of c.args.earlier) in
    let a = g.K.Sink.taken c.args.out.now in
    head_begun due.listed due.bytes a a (prefix_none a _)

pub returns-in-Ok-write_head : goal.returns-in-Ok-write_head
returns-in-Ok-write_head g c =
    let due = due_of c.args.options.now c.args.geometry (kept_of c.args.earlier) in
    let same = ap (λ (d : DueList). head_of d.listed d.bytes) c.in-Ok.ensures in
    (c.in-Ok.ensures, head_written due.listed due.bytes _ _ _ _ c.write_head.result c.in-Ok-write_head.field-0 _ c.in-Ok-write_head.is same c.write_head.ensures, c.write_head.ensures.later)

pub returns-in-Err : goal.returns-in-Err
returns-in-Err g c =
    let due = due_of c.args.options.now c.args.geometry (kept_of c.args.earlier) in
    let same = ap (λ (d : DueList). head_of d.listed d.bytes) c.in-Ok.ensures in
    subst
    (IsListEnd due.listed due.bytes (record { before = g.K.Sink.taken c.args.out.now; after = g.K.Sink.taken c.write_head.new.out }) (record { before = g.K.Sink.faults c.args.out.now; after = g.K.Sink.faults c.write_head.new.out }))
    (sym c.status_of_lines.ensures) (head_failed due.listed due.bytes _ _ _ _ c.write_head.result c.in-Err.fault _ c.in-Err.is same c.write_head.ensures)
