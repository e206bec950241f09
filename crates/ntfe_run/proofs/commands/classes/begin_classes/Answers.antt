use Rattle.std.proofs.Common.{subst}
use Rattle.ntfe_model.specs.RunText.{Kept, nothing_kept}
use Rattle.ntfe_run.specs.Commands.{classes_room}
use Rattle.ntfe_run.specs.Dues.{due_of}
use Rattle.ntfe_run.specs.Tasks.{Opened, IsListTask}
use Rattle.ntfe_run.proofs.TaskEnds.{list_task}
use Rattle.ntfe_run.proofs.ListEnds.{list_answer}
use Rattle.ntfe_run.proofs.commands.classes.begin_classes.Goals as goal

pub returns-in-Ok-clause-task : goal.returns-in-Ok-clause-task
returns-in-Ok-clause-task g c =
    let o = c.args.options.now in
    let shape = c.in-Ok.geometry in
    let opened : Opened = record {
      left = record { before = g.S.Source.left c.args.source.now; after = g.S.Source.left c.read_geometry.new.source };
      read_faults = record { before = g.S.Source.faults c.args.source.now; after = g.S.Source.faults c.read_geometry.new.source };
      taken = record { before = g.K.Sink.taken c.args.out.now; after = g.K.Sink.taken c.begin_list.new.out };
      write_faults = record { before = g.K.Sink.faults c.args.out.now; after = g.K.Sink.faults c.begin_list.new.out };
    } in
    list_task (classes_room o) shape opened (due_of o shape nothing_kept) (λ taken faults. c.in-Ok.ensures.ok) (λ taken faults status h. list_answer o shape c.in-Ok.ensures.ok.2.shape taken faults status h) c.begin_list.result
    (subst (λ (k : Kept). IsListTask (due_of o shape k) opened.taken opened.write_faults c.begin_list.result) c.nothing_kept.ensures c.begin_list.ensures)
