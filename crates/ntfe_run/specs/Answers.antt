-- What the answer of a run means: when each status comes, and what is written.
use Rattle.std.specs.Prelude.{◌≡◌, ◌⊎◌, ℕ, ◌+◌, ◌≤◌, List, ⊤}
use Rattle.std.specs.Io.KnownBytes.{Keeps}
use Rattle.io_edge.specs.Causes.{Rose}
use Rattle.io_edge.specs.Changes.{Change}
use Rattle.ntfe_words.specs.CommandLine.{IsMeaning, HasMeaning}
use Rattle.ntfe_words.specs.declared.command.Command.{Command}
use Rattle.ntfe_run.specs.Edges.{Edges, IsUntouched}
use Rattle.ntfe_run.specs.Rooms.{HasCause, HasText, TakesAll, CanAnswer, most_turns}
use Rattle.ntfe_run.specs.Commands.{room_of}
use Rattle.ntfe_run.specs.declared.status.Status.{Status}
use Rattle.ntfe_run.specs.declared.status.Status.TheVariants.{Done, Usage, Refused, Memory, ReadFault}

-- when each status ends a run
abbrev pub HasAnswerCause : List (List ℕ) → Edges → Status → Type 0
HasAnswerCause words e Usage = (¬ (HasMeaning words)) × IsUntouched e
HasAnswerCause words e Memory = ⊤
HasAnswerCause words e status = (c : Command) × IsMeaning words c × HasCause (room_of c) e status

-- what the sink took in a run
abbrev pub HasRunText : List (List ℕ) → Edges → Status → Type 0
HasRunText words e Usage = Keeps e.taken.before e.taken.after
HasRunText words e (Refused refusal) = Keeps e.taken.before e.taken.after
HasRunText words e ReadFault = Keeps e.taken.before e.taken.after
HasRunText words e Memory = Keeps e.taken.before e.taken.after ⊎ ((c : Command) × IsMeaning words c × HasText (room_of c) e Memory)
HasRunText words e status = (c : Command) × IsMeaning words c × HasText (room_of c) e status

-- where all is done, the whole text of the command that the words mean has its headline
abbrev pub HasHeadline : List (List ℕ) → Edges → Status → Type 0
HasHeadline words e Done = (c : Command) → IsMeaning words c → TakesAll (room_of c) (room_of c).IsHeadline e
HasHeadline words e status = ⊤

-- the words mean a command that can answer what it is given
pub record HasAnswer (words : List (List ℕ)) (e : Edges) : Type 0 where
  pub asked : Command
  pub means : IsMeaning words asked
  pub can : CanAnswer (room_of asked) e

-- then all is done, unless a count of faults rose or memory ran out
abbrev pub IsComplete : List (List ℕ) → Edges → Status → Type 0
IsComplete words e status = HasAnswer words e → ¬ (Rose e.read_faults.before e.read_faults.after) → ¬ (Rose e.write_faults.before e.write_faults.after) → (status ≡ Done) ⊎ (status ≡ Memory)

-- all that a status says
pub record IsRun (words : List (List ℕ)) (e : Edges) (status : Status) : Type 0 where
  pub cause : HasAnswerCause words e status
  pub text : HasRunText words e status
  pub headline : HasHeadline words e status
  pub complete : IsComplete words e status

-- no more turns of reading are taken than the command has for its limit of bytes
abbrev pub HasFewTurns : List (List ℕ) → Change ℕ → Type 0
HasFewTurns words turns = (c : Command) → IsMeaning words c → turns.after ≤ turns.before + most_turns (room_of c).limit
