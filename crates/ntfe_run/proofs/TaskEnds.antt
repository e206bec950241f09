-- From the reading of an input to what is left to do, and from there to the end of the run.
use Rattle.std.proofs.Common.{◌≡◌, refl, sym, ap, subst, arith, ℕ, ◌≤◌, List, inl}
use Rattle.std.specs.Prelude.{Option}
use Rattle.io_edge.specs.Causes.{Rose}
use Rattle.io_edge.specs.Changes.{Change}
use Rattle.steal_workers.specs.Listings.{Listed, HasServed}
use Rattle.steal_workers.specs.declared.served.Served.{Served}
use Rattle.steal_workers.specs.declared.served.Served.TheVariants as served
use Rattle.ntfe_words.specs.CommandLine.{IsMeaning}
use Rattle.ntfe_words.specs.declared.command.Command.{Command}
use Rattle.ntfe_run.specs.Rooms.{Room, IsReadInput, IsAnswer, IsAnswered}
use Rattle.ntfe_run.specs.Commands.{room_of}
use Rattle.ntfe_run.specs.Statuses.{IsListEnd, IsDemoEnd, WritesLast}
use Rattle.ntfe_run.specs.Answers.{HasAnswerCause, HasRunText}
use Rattle.ntfe_run.specs.Dues.{DueList}
use Rattle.ntfe_run.specs.Tasks.{Opened, HasHead, edges_at, IsListTask, IsTaskOf, IsTask}
use Rattle.ntfe_run.specs.declared.status.Status.{Status}
use Rattle.ntfe_run.specs.declared.tasks.Task.{Task}
use Rattle.ntfe_run.specs.declared.tasks.Task.TheVariants.{Ended, Lists, Counts}
use Rattle.ntfe_run.proofs.Answered.{answered}
use Rattle.ntfe_run.proofs.Asked.{asked_cause, asked_text}
use Rattle.ntfe_run.proofs.ListEnds.{served_end, rose_later}

-- ---- what is left to do

-- an input was read whose list was begun
module _ (r : Room) (i : r.Input) (o : Opened) (due : DueList) (read : (taken : Option (List ℕ)) (faults : ℕ) → IsReadInput r (edges_at o taken faults) i)
    (answer : (taken : Change (Option (List ℕ))) (faults : Change ℕ) (status : Status) → IsListEnd due.listed due.bytes taken faults status → IsAnswer r i taken faults status) where
  pub list_task : (t : Task) → IsListTask due o.taken o.write_faults t → IsTaskOf r o t
  list_task (Ended status) h = answered r i (edges_at o o.taken.after o.write_faults.after) status (read o.taken.after o.write_faults.after) (answer o.taken o.write_faults status h)
  list_task (Lists task) (e, head, later) = (
    λ taken faults status k. answered r i (edges_at o taken faults) status (read taken faults)
        (answer (record { before = o.taken.before; after = taken }) (record { before = o.write_faults.before; after = faults }) status
        (subst (λ (d : DueList). IsListEnd d.listed d.bytes (record { before = o.taken.before; after = taken }) (record { before = o.write_faults.before; after = faults }) status) e k)),
    subst (λ (d : DueList). HasHead o d) (sym e) record { head = head; later = later },
  )
  list_task (Counts number task) h = absurd h

-- what is left of a command is left of the run
pub asked_task : (words : List (List ℕ)) (c : Command) → IsMeaning words c → (o : Opened) (t : Task) → IsTaskOf (room_of c) o t → IsTask words o t
asked_task words c means o (Ended status) h = (asked_cause words c means _ status h, asked_text words c means _ status h)
asked_task words c means o (Lists due) h = (c, means, h)
asked_task words c means o (Counts number due) h = (c, means, h)

-- ---- the end

-- the classes were listed, and the last line was written
pub listed_end : (words : List (List ℕ)) (o : Opened) (due : DueList) → IsTask words o (Lists due) → (mid last : Option (List ℕ)) (h i : ℕ) (s : Served)
    → HasServed due.listed (record { before = o.taken.after; after = mid }) s → (s ≡ served.WriteFault → Rose o.write_faults.after h) → o.write_faults.after ≤ h
    → (status : Status) → WritesLast s (record { before = mid; after = last }) (record { before = h; after = i }) status
    → HasAnswerCause words (edges_at o last i) status × HasRunText words (edges_at o last i) status
listed_end words o due (c, means, (owed, head)) mid last h i s served cause later status wrote =
    let low = head.later in
    let e = served_end due.listed due.bytes o.taken.before o.taken.after mid last head.head o.write_faults.before h i (omega (arith, low, later)) s served (λ q. rose_later _ _ _ low (cause q)) status wrote in
    let a = owed last i status e in
    (asked_cause words c means _ status a, asked_text words c means _ status a)

-- the classes were counted, and the lines were written
pub counted_end : (words : List (List ℕ)) (o : Opened) (number : ℕ) (due : DueList) → IsTask words o (Counts number due) → (taken : Option (List ℕ)) (faults : ℕ) (status : Status)
    → IsDemoEnd number due.listed.width due.listed.geometry (record { before = o.taken.after; after = taken }) (record { before = o.write_faults.after; after = faults }) status
    → HasAnswerCause words (edges_at o taken faults) status × HasRunText words (edges_at o taken faults) status
counted_end words o number due (c, means, (demo, owed, unwritten)) taken faults status e =
    let k = subst (λ (x : Option (List ℕ) × ℕ). IsDemoEnd number due.listed.width due.listed.geometry (record { before = x.0; after = taken }) (record { before = x.1; after = faults }) status)
    (λ j. (unwritten.taken j, unwritten.faults j)) e in
    let a = owed taken faults status k in
    (asked_cause words c means _ status a, asked_text words c means _ status a)
