use Rattle.ntfe_run.proofs.DoneShows.{classes_show, resume_shows}
use Rattle.ntfe_run.proofs.laws.texts.done_shows_each_class.Goals as goal

pub returns : goal.returns
returns c = record {
  classes = λ words e o run m unlimited. classes_show o unlimited words e run.text m;
  resume = λ words e o run m unlimited. resume_shows o unlimited words e run.text m;
}
