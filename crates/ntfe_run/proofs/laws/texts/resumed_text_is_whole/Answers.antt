use Rattle.ntfe_run.proofs.KeptTexts.{resumed_whole, resumed_text, resumed_written}
use Rattle.ntfe_run.proofs.laws.texts.resumed_text_is_whole.Goals as goal

pub returns : goal.returns
returns c = record { whole = resumed_whole; limits = resumed_text; written = resumed_written }
