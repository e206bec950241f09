-- From the command that was answered to the run.
use Rattle.std.proofs.Common.{inr, ℕ, List}
use Rattle.ntfe_words.specs.CommandLine.{IsMeaning}
use Rattle.ntfe_words.specs.declared.command.Command.{Command}
use Rattle.ntfe_run.specs.Edges.{Edges}
use Rattle.ntfe_run.specs.Rooms.{IsAnswered}
use Rattle.ntfe_run.specs.Commands.{room_of}
use Rattle.ntfe_run.specs.Answers.{HasAnswerCause, HasRunText}
use Rattle.ntfe_run.specs.declared.status.Status.{Status}
use Rattle.ntfe_run.specs.declared.status.Status.TheVariants.{Done, Usage, Refused, Overflow, Limit, Memory, ReadFault, WriteFault}

module _ (words : List (List ℕ)) (c : Command) (means : IsMeaning words c) (e : Edges) where
  pub asked_cause : (s : Status) → IsAnswered (room_of c) e s → HasAnswerCause words e s
  asked_cause Done h = (c, means, h.cause)
  asked_cause Usage h = absurd h.cause
  asked_cause (Refused refusal) h = (c, means, h.cause)
  asked_cause (Overflow choice step number) h = (c, means, h.cause)
  asked_cause (Limit face) h = (c, means, h.cause)
  asked_cause Memory h = tt
  asked_cause ReadFault h = (c, means, h.cause)
  asked_cause WriteFault h = (c, means, h.cause)

  pub asked_text : (s : Status) → IsAnswered (room_of c) e s → HasRunText words e s
  asked_text Done h = (c, means, h.text)
  asked_text Usage h = h.text
  asked_text (Refused refusal) h = h.text
  asked_text (Overflow choice step number) h = (c, means, h.text)
  asked_text (Limit face) h = (c, means, h.text)
  asked_text Memory h = inr (c, means, h.text)
  asked_text ReadFault h = h.text
  asked_text WriteFault h = (c, means, h.text)
