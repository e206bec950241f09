use Rattle.ntfe_run.proofs.AllBlocks.{blocks_listed, text_exists, text_fixed}
use Rattle.ntfe_run.proofs.laws.texts.run_text_exists.Goals as goal

pub returns : goal.returns
returns c = record {
  blocks = λ g form start s. blocks_listed g s form start;
  text = λ g form kept limit s. text_exists g s form kept limit;
  only = λ g form kept limit text other p q. text_fixed g form kept limit text other p q;
}
