use Rattle.ntfe_run.proofs.ShownChoices.{run_shows, run_shows_induced, stopped_shows, due_shows}
use Rattle.ntfe_run.proofs.laws.texts.texts_show_each_choice.Goals as goal

pub returns : goal.returns
returns c = record { extendable = run_shows; induced = run_shows_induced; stopped = stopped_shows; due = due_shows }
