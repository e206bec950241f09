-- Helpers of the code: the statuses that the steps of a command come to.
use Rattle.std.specs.Prelude.{◌≡◌, ◌⊎◌, ℕ, List, codes, Option, Result, Ok, Err, ⊤}
use Rattle.std.specs.Io.KnownBytes.{Keeps}
use Rattle.io_edge.specs.Causes.{Rose}
use Rattle.io_edge.specs.Changes.{Change}
use Rattle.io_edge.specs.Reading.{ReadsAll, ReadsPast}
use Rattle.io_edge.specs.declared.line_fault.LineFault.{LineFault}
use Rattle.io_edge.specs.declared.line_fault.LineFault.TheVariants as line
use Rattle.io_edge.specs.Lines.{WritesText}
use Rattle.ntfe_model.specs.Shapes.{Shape, IsShape}
use Rattle.ntfe_model.specs.Keys.{MayOverflow, MayLimit}
use Rattle.ntfe_model.specs.RunText.{Form, Kept, IsStoppedText, head_due, end_line, limit_line}
use Rattle.steal_workers.specs.Listings.{Listed}
use Rattle.steal_workers.specs.declared.served.Served.{Served}
use Rattle.steal_workers.specs.declared.served.Served.TheVariants as served
use Rattle.class_text.specs.Earlier as earlier
use Rattle.ntfe_run.specs.Earlier.{Begun, IsBegunInput}
use Rattle.ntfe_run.specs.declared.commands.resume.Resumed.{Resumed}
use Rattle.ntfe_run.specs.Commands.{input_limit, begun_limit, IsListText, demo_room}
use Rattle.ntfe_run.specs.Demo.{IsDemoText, demo_text}
use Rattle.ntfe_run.specs.Inputs.{IsInputOf}
use Rattle.ntfe_run.specs.Rooms.{Takes, TakesPrefix, IsAnswer}
use Rattle.ntfe_run.specs.declared.status.Refusal.{Refusal}
use Rattle.ntfe_run.specs.declared.status.Refusal.TheVariants.{Size}
use Rattle.ntfe_run.specs.declared.status.Status.{Status}
use Rattle.ntfe_run.specs.declared.status.Status.TheVariants.{Done, Refused, Overflow, Limit, Memory, ReadFault, WriteFault}

-- ---- the reading of an input

abbrev pub IsPairRead : Change (Option (List ℕ)) → Shape → Type 0
IsPairRead left g = (bytes : List ℕ) × ReadsAll left.before left.after bytes input_limit × IsInputOf bytes g

-- what a pair and an earlier output are as an input
abbrev pub begun_input : Resumed → Begun
begun_input b = record { geometry = b.geometry; kept = earlier.kept_of b.earlier }

abbrev pub IsBegunRead : Form → Change (Option (List ℕ)) → Resumed → Type 0
IsBegunRead form left b = (bytes : List ℕ) × ReadsAll left.before left.after bytes begun_limit × IsBegunInput form bytes (begun_input b)

-- why no input of at most so many bytes was read
abbrev pub IsInputRefusal : ℕ → (List ℕ → Refusal → Type 0) → Change (Option (List ℕ)) → Refusal → Type 0
IsInputRefusal most Refuses left (Size limit) = (limit ≡ most) × ReadsPast left.before left.after most
IsInputRefusal most Refuses left refusal = (bytes : List ℕ) × ReadsAll left.before left.after bytes most × Refuses bytes refusal

abbrev pub IsReadStop : ℕ → (List ℕ → Refusal → Type 0) → Change (Option (List ℕ)) → Change ℕ → Status → Type 0
IsReadStop most Refuses left faults (Refused refusal) = IsInputRefusal most Refuses left refusal
IsReadStop most Refuses left faults Memory = ⊤
IsReadStop most Refuses left faults ReadFault = Rose faults.before faults.after
IsReadStop most Refuses left faults status = ⊥

-- the bytes were not read to their end
abbrev pub IsByteStop : ℕ → Change (Option (List ℕ)) → Change ℕ → Status → Type 0
IsByteStop most left faults status = IsReadStop most (λ bytes refusal. ⊥) left faults status

-- ---- the writing of lines

abbrev pub status_of_lines : Result (Unit {0}) LineFault → Status
status_of_lines (Ok done) = Done
status_of_lines (Err line.Write) = WriteFault
status_of_lines (Err line.Memory) = Memory

-- ---- a list of classes

-- what is kept, where so many bytes are
abbrev pub kept_of : Listed → ℕ → Kept
kept_of l bytes = record { bytes = bytes; blocks = l.kept; last = l.start }

-- the head, where it is due
abbrev pub head_of : Listed → ℕ → List ℕ
head_of l bytes = head_due l.geometry.pair l.form (kept_of l bytes)

-- a prefix of the text was taken, which each reflexive pair within the limits has
abbrev pub TakesBeginning : Listed → ℕ → Change (Option (List ℕ)) → Type 0
TakesBeginning l bytes taken = IsShape l.geometry → TakesPrefix (IsListText l (kept_of l bytes)) taken

-- how the text of a list ends, and what was taken, where so many bytes are kept
abbrev pub IsListEnd : Listed → ℕ → Change (Option (List ℕ)) → Change ℕ → Status → Type 0
IsListEnd l bytes taken faults Done = Takes (IsListText l (kept_of l bytes)) taken
IsListEnd l bytes taken faults Memory = TakesBeginning l bytes taken
IsListEnd l bytes taken faults WriteFault = TakesBeginning l bytes taken × Rose faults.before faults.after
IsListEnd l bytes taken faults (Overflow choice step number) =
    Takes (λ text. MayOverflow l.geometry l.start l.width choice step number × IsStoppedText l.geometry l.form (kept_of l bytes) l.limit choice text) taken
IsListEnd l bytes taken faults (Limit face) =
    Takes (λ text. (key : List ℕ) × MayLimit l.geometry l.start l.width face key × IsStoppedText l.geometry l.form (kept_of l bytes) l.limit key text) taken
IsListEnd l bytes taken faults status = ⊥

-- the status of a list that ends without a last line
abbrev pub status_of_end : Served → Status
status_of_end (served.End count last) = Done
status_of_end (served.Limit count last) = Done
status_of_end (served.Wide choice step number) = Overflow choice step number
status_of_end (served.Far face) = Limit face
status_of_end served.WriteFault = WriteFault
status_of_end served.Memory = Memory

-- a line was written, and the status says how that went
abbrev pub WritesLine : List ℕ → Change (Option (List ℕ)) → Change ℕ → Status → Type 0
WritesLine text taken faults status =
    (r : Result (Unit {0}) LineFault) × (status ≡ status_of_lines r) × WritesText taken.before taken.after faults.before faults.after r text

-- the last line was written, where there is one
abbrev pub WritesLast : Served → Change (Option (List ℕ)) → Change ℕ → Status → Type 0
WritesLast (served.End count last) taken faults status = WritesLine (end_line count) taken faults status
WritesLast (served.Limit count last) taken faults status = WritesLine (limit_line count) taken faults status
WritesLast s taken faults status = (status ≡ status_of_end s) × (taken.after ≡ taken.before) × (faults.after ≡ faults.before)

-- ---- the classes of a product of two polygons

-- the lines that tell of a count were written, where it came to its end or limit
abbrev pub TellsCount : ℕ → Shape → Served → Change (Option (List ℕ)) → Change ℕ → Status → Type 0
TellsCount number g (served.End count last) taken faults status = WritesLine (demo_text number g count (codes "end") last) taken faults status
TellsCount number g (served.Limit count last) taken faults status = WritesLine (demo_text number g count (codes "limit") last) taken faults status
TellsCount number g s taken faults status = (status ≡ status_of_end s) × (taken.after ≡ taken.before) × (faults.after ≡ faults.before)

-- how the counting ends, and what was taken of its lines: nothing before it has come to its end
abbrev pub IsDemoEnd : ℕ → ℕ → Shape → Change (Option (List ℕ)) → Change ℕ → Status → Type 0
IsDemoEnd number width g taken faults Memory = Keeps taken.before taken.after ⊎ TakesPrefix (IsDemoText number g) taken
IsDemoEnd number width g taken faults status = IsAnswer (demo_room number width) g taken faults status
