use Rattle.std.proofs.Common.{rules}
use Rattle.std.specs.Prelude.{not}
use Rattle.std.proofs.lemmas.Fn.{filter_same}
use Rattle.ntfe_model.specs.Words.{is_same_step}
use Rattle.fine_triples.proofs.waiting.remove.Goals as goal

pub returns : goal.returns
returns c = filter_same _ (λ e. not (is_same_step c.args.step e)) _ (λ x b f k. search rules) _ _ c.retain.ensures.filtered
