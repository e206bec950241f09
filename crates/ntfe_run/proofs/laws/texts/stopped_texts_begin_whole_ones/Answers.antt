use Rattle.ntfe_run.proofs.Beginnings.{list_text_is, stopped_begins}
use Rattle.ntfe_run.proofs.laws.texts.stopped_texts_begin_whole_ones.Goals as goal

pub returns : goal.returns
returns c = record {
  due = λ o g kept text s h. list_text_is o g s kept text h;
  stopped = λ g form kept limit bound text s h. stopped_begins g s form kept limit bound text h;
}
