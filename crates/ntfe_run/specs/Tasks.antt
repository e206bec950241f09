-- Helpers of the code: what a run has to do after its input is read: to list classes behind a head that is written, or to count them.
use Rattle.std.specs.Prelude.{◌≡◌, ℕ, ◌≤◌, List, Option}
use Rattle.std.specs.Io.KnownBytes.{Appends}
use Rattle.io_edge.specs.Changes.{Change}
use Rattle.steal_workers.specs.Listings.{Listed}
use Rattle.ntfe_words.specs.CommandLine.{IsMeaning}
use Rattle.ntfe_words.specs.declared.command.Command.{Command}
use Rattle.ntfe_run.specs.Edges.{Edges}
use Rattle.ntfe_run.specs.Rooms.{Room, IsAnswered}
use Rattle.ntfe_run.specs.Commands.{room_of}
use Rattle.ntfe_run.specs.Dues.{DueList, demo_listed}
use Rattle.ntfe_run.specs.Statuses.{head_of, IsListEnd, IsDemoEnd}
use Rattle.ntfe_run.specs.Answers.{HasAnswerCause, HasRunText}
use Rattle.ntfe_run.specs.declared.status.Status.{Status}
use Rattle.ntfe_run.specs.declared.tasks.Task.{Task}
use Rattle.ntfe_run.specs.declared.tasks.Task.TheVariants.{Ended, Lists, Counts}

-- a run after its input was read
pub record Opened : Type 0 where
  pub left : Change (Option (List ℕ))
  pub read_faults : Change ℕ
  pub taken : Change (Option (List ℕ))
  pub write_faults : Change ℕ

-- the edges of the run where its sink comes to these bytes and faults at last
abbrev pub edges_at : Opened → Option (List ℕ) → ℕ → Edges
edges_at o taken faults = record {
  left = o.left;
  read_faults = o.read_faults;
  taken = record { before = o.taken.before; after = taken };
  write_faults = record { before = o.write_faults.before; after = faults };
}

-- however the list ends, the command is answered
abbrev pub AnswersList : Room → Opened → DueList → Type 0
AnswersList r o due = (taken : Option (List ℕ)) (faults : ℕ) (status : Status)
    → IsListEnd due.listed due.bytes (record { before = o.taken.before; after = taken }) (record { before = o.write_faults.before; after = faults }) status → IsAnswered r (edges_at o taken faults) status

-- however the counting ends, the command is answered
abbrev pub AnswersCount : Room → Opened → ℕ → Listed → Type 0
AnswersCount r o number l = (taken : Option (List ℕ)) (faults : ℕ) (status : Status)
    → IsDemoEnd number l.width l.geometry (record { before = o.taken.before; after = taken }) (record { before = o.write_faults.before; after = faults }) status → IsAnswered r (edges_at o taken faults) status

-- what is counted for `demo` is listed
abbrev pub IsDemoList : Listed → Type 0
IsDemoList l = l ≡ demo_listed l.width l.geometry

-- the head was written
pub record HasHead (o : Opened) (due : DueList) : Type 0 where
  pub head : Appends o.taken.before o.taken.after (head_of due.listed due.bytes)
  pub later : o.write_faults.before ≤ o.write_faults.after

-- nothing was written
pub record IsUnwritten (o : Opened) : Type 0 where
  pub taken : o.taken.after ≡ o.taken.before
  pub faults : o.write_faults.after ≡ o.write_faults.before

-- the command is answered, or will be, however what is left to do ends
abbrev pub IsTaskOf : Room → Opened → Task → Type 0
IsTaskOf r o (Ended status) = IsAnswered r (edges_at o o.taken.after o.write_faults.after) status
IsTaskOf r o (Lists due) = AnswersList r o due × HasHead o due
IsTaskOf r o (Counts number due) = IsDemoList due.listed × AnswersCount r o number due.listed × IsUnwritten o

-- the same of the command that the words mean
abbrev pub IsTask : List (List ℕ) → Opened → Task → Type 0
IsTask words o (Ended status) = HasAnswerCause words (edges_at o o.taken.after o.write_faults.after) status × HasRunText words (edges_at o o.taken.after o.write_faults.after) status
IsTask words o (Lists due) = (c : Command) × IsMeaning words c × IsTaskOf (room_of c) o (Lists due)
IsTask words o (Counts number due) = (c : Command) × IsMeaning words c × IsTaskOf (room_of c) o (Counts number due)

-- the head of a list was written, or that failed
abbrev pub IsListTask : DueList → Change (Option (List ℕ)) → Change ℕ → Task → Type 0
IsListTask due taken faults (Ended status) = IsListEnd due.listed due.bytes taken faults status
IsListTask due taken faults (Lists task) = (task ≡ due) × Appends taken.before taken.after (head_of due.listed due.bytes) × (faults.before ≤ faults.after)
IsListTask due taken faults (Counts number task) = ⊥
