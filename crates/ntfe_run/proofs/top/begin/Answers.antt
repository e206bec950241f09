use Rattle.std.proofs.Common.{subst, map}
use Rattle.std.specs.Prelude.{string_bytes}
use Rattle.ntfe_words.specs.CommandLine.{IsMeaning}
use Rattle.ntfe_words.specs.declared.command.Command.{Command}
use Rattle.ntfe_words.specs.declared.command.Command.TheVariants as command
use Rattle.ntfe_run.proofs.TaskEnds.{asked_task}
use Rattle.ntfe_run.proofs.top.begin.Goals as goal

pub returns-in-Demo-clause-task : goal.returns-in-Demo-clause-task
returns-in-Demo-clause-task g c =
    let words = map string_bytes c.args.words.now in
    let means = subst (λ (x : Command). IsMeaning words x) c.in-Demo.is c.in-Ok.ensures.meaning in
    asked_task words (command.Demo c.in-Demo.number c.in-Demo.workers c.in-Demo.width) means _ c.begin_demo.result
    (c.begin_demo.ensures (g.S.Source.left c.args.source.now) (g.K.Sink.taken c.args.out.now) (g.S.Source.faults c.args.source.now) (g.K.Sink.faults c.args.out.now))
