use Rattle.ntfe_run.proofs.Answered.{told}
use Rattle.ntfe_run.proofs.Completeness.{complete}
use Rattle.ntfe_run.proofs.Headline.{headline}
use Rattle.ntfe_run.proofs.top.run.Goals as goal

pub returns-clause-answer : goal.returns-clause-answer
returns-clause-answer g c =
    let h = c.answer_together-status.ensures in
    record { cause = h.cause; text = h.text; headline = headline _ _ _ h.text; complete = complete _ _ _ h.cause }

pub returns-clause-message : goal.returns-clause-message
returns-clause-message g c = told _ _ _ _ c.write_message.result _ c.write_message.ensures.fault c.write_message.ensures.text
