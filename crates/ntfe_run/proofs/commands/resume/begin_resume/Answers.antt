use Rattle.class_text.specs.Earlier.{kept_of}
use Rattle.ntfe_run.specs.Commands.{resume_room, form_of_options}
use Rattle.ntfe_run.specs.Dues.{due_of}
use Rattle.ntfe_run.specs.Earlier.{Begun}
use Rattle.ntfe_run.specs.Tasks.{Opened}
use Rattle.ntfe_run.proofs.TaskEnds.{list_task}
use Rattle.ntfe_run.proofs.ListEnds.{rest_answer}
use Rattle.ntfe_run.proofs.KeptStarts.{kept_start}
use Rattle.ntfe_run.proofs.commands.resume.begin_resume.Goals as goal

pub begin_list-requires-clause-start : goal.begin_list-requires-clause-start
begin_list-requires-clause-start g c =
    let read = c.in-Ok.ensures.ok in
    kept_start (form_of_options c.args.options.now) c.in-Ok.begun.geometry read.2.behind (kept_of c.in-Ok.begun.earlier) read.2.holds.1

pub returns-in-Ok-clause-task : goal.returns-in-Ok-clause-task
returns-in-Ok-clause-task g c =
    let o = c.args.options.now in
    let input : Begun = record { geometry = c.in-Ok.begun.geometry; kept = kept_of c.in-Ok.begun.earlier } in
    let opened : Opened = record {
      left = record { before = g.S.Source.left c.args.source.now; after = g.S.Source.left c.read_begun.new.source };
      read_faults = record { before = g.S.Source.faults c.args.source.now; after = g.S.Source.faults c.read_begun.new.source };
      taken = record { before = g.K.Sink.taken c.args.out.now; after = g.K.Sink.taken c.begin_list.new.out };
      write_faults = record { before = g.K.Sink.faults c.args.out.now; after = g.K.Sink.faults c.begin_list.new.out };
    } in
    list_task (resume_room o) input opened (due_of o c.in-Ok.begun.geometry (kept_of c.in-Ok.begun.earlier)) (λ taken faults. c.in-Ok.ensures.ok) (λ taken faults status h. rest_answer o input c.in-Ok.ensures.ok.2.holds.0.shape taken faults status h) c.begin_list.result c.begin_list.ensures
