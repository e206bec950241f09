-- What a command reads and writes, where it stops, and what each status says of it. Each command is one record.
use Rattle.std.specs.Prelude.{◌≡◌, ◌⊎◌, ℕ, ℤ, ◌+◌, ◌≤◌, List, [], length, Option, None, Some, ⊤}
use Rattle.std.specs.Io.KnownBytes.{Appends, Keeps}
use Rattle.io_edge.specs.Causes.{Rose, AppendsPrefix}
use Rattle.io_edge.specs.Changes.{Change}
use Rattle.io_edge.specs.Reading.{ReadsAll, ReadsPast}
use Rattle.ntfe_run.specs.Edges.{Edges, IsUntouched}
use Rattle.ntfe_run.specs.declared.status.Refusal.{Refusal}
use Rattle.ntfe_run.specs.declared.status.Refusal.TheVariants.{Size}
use Rattle.ntfe_run.specs.declared.status.Status.{Status}
use Rattle.ntfe_run.specs.declared.status.Status.TheVariants.{Done, Usage, Refused, Overflow, Limit, Memory, ReadFault, WriteFault}

pub record Room : Type 1 where
  -- the greatest number of bytes that are read; where there is none, nothing is read
  pub limit : Option ℕ
  -- what the bytes are to hold, and why they are refused
  pub Input : Type 0
  pub Holds : List ℕ → Input → Type 0
  pub Refuses : List ℕ → Refusal → Type 0
  -- the whole text
  pub IsText : Input → List ℕ → Type 0
  -- a choice on which it may stop, since at this step the solver comes to this number, which is too wide
  pub IsWide : Input → List ℕ → ℕ → ℤ → Type 0
  -- a key on which it may stop, since this two-face has too many items
  pub IsFar : Input → ℕ → List ℕ → Type 0
  -- the text where it stops at a choice or a key
  pub IsStopped : Input → List ℕ → List ℕ → Type 0
  -- what the whole text says of the input beside
  pub IsHeadline : Input → List ℕ → Type 0

-- ---- the source

-- the source was read to its end, and its bytes have P; where nothing is to be read, it was not, and no bytes have P
abbrev pub IsRead : Option ℕ → Edges → (List ℕ → Type 0) → Type 0
IsRead None e P = IsUntouched e × P []
IsRead (Some limit) e P = (bytes : List ℕ) × ReadsAll e.left.before e.left.after bytes limit × P bytes

-- the input was read
abbrev pub IsReadInput : (r : Room) → Edges → r.Input → Type 0
IsReadInput r e i = IsRead r.limit e (λ bytes. r.Holds bytes i)

-- the source gave one byte more than the limit, or its bytes are refused
abbrev pub IsReadRefusal : Room → Edges → Refusal → Type 0
IsReadRefusal r e (Size limit) = (r.limit ≡ Some limit) × ReadsPast e.left.before e.left.after limit
IsReadRefusal r e refusal = IsRead r.limit e (λ bytes. r.Refuses bytes refusal)

-- the most turns of reading
abbrev pub most_turns : Option ℕ → ℕ
most_turns None = 0
most_turns (Some limit) = limit + 2

-- ---- the sink

-- all of a text that has P was taken
pub record Takes (P : List ℕ → Type 0) (taken : Change (Option (List ℕ))) : Type 0 where
  pub text : List ℕ
  pub is : P text
  pub all : Appends taken.before taken.after text

-- a prefix of a text that has P was taken
pub record TakesPrefix (P : List ℕ → Type 0) (taken : Change (Option (List ℕ))) : Type 0 where
  pub text : List ℕ
  pub is : P text
  pub prefix : AppendsPrefix taken.before taken.after text

-- the input was read, and all of a text of it was taken that has P
pub record TakesAll (r : Room) (P : r.Input → List ℕ → Type 0) (e : Edges) : Type 0 where
  pub input : r.Input
  pub read : IsReadInput r e input
  pub takes : Takes (P input) e.taken

-- the input was read, and a prefix of a text of it was taken that has P
pub record TakesPart (r : Room) (P : r.Input → List ℕ → Type 0) (e : Edges) : Type 0 where
  pub input : r.Input
  pub read : IsReadInput r e input
  pub takes : TakesPrefix (P input) e.taken

-- the text ends below this choice, on which the solver's numbers are too wide
abbrev pub IsWideEnd : (r : Room) → List ℕ → ℕ → ℤ → r.Input → List ℕ → Type 0
IsWideEnd r choice step number i text = r.IsWide i choice step number × r.IsStopped i choice text

-- the text ends below a key that comes to the item limit of this two-face
abbrev pub IsFarEnd : (r : Room) → ℕ → r.Input → List ℕ → Type 0
IsFarEnd r face i text = (key : List ℕ) × r.IsFar i face key × r.IsStopped i key text

-- ---- an answer to an input

-- how the answer to an input ends, with what was written and the sink's count of faults
abbrev pub IsAnswer : (r : Room) → r.Input → Change (Option (List ℕ)) → Change ℕ → Status → Type 0
IsAnswer r i taken faults Done = Takes (r.IsText i) taken
IsAnswer r i taken faults Memory = TakesPrefix (r.IsText i) taken
IsAnswer r i taken faults WriteFault = TakesPrefix (r.IsText i) taken × Rose faults.before faults.after
IsAnswer r i taken faults (Overflow choice step number) = Takes (IsWideEnd r choice step number i) taken
IsAnswer r i taken faults (Limit face) = Takes (IsFarEnd r face i) taken
IsAnswer r i taken faults status = ⊥

-- ---- what a status says

-- when each status ends a command
abbrev pub HasCause : Room → Edges → Status → Type 0
HasCause r e Done = (i : r.Input) × IsReadInput r e i
HasCause r e (Refused refusal) = IsReadRefusal r e refusal
HasCause r e (Overflow choice step number) = (i : r.Input) × IsReadInput r e i × r.IsWide i choice step number
HasCause r e (Limit face) = (i : r.Input) × (key : List ℕ) × IsReadInput r e i × r.IsFar i face key
HasCause r e Memory = ⊤
HasCause r e ReadFault = Rose e.read_faults.before e.read_faults.after
HasCause r e WriteFault = Rose e.write_faults.before e.write_faults.after
HasCause r e Usage = ⊥

-- What the sink took: the whole text, where all was done; all below it, where the listing stopped at a choice or a key; else nothing, or a prefix of the whole text
abbrev pub HasText : Room → Edges → Status → Type 0
HasText r e Done = TakesAll r r.IsText e
HasText r e (Overflow choice step number) = TakesAll r (IsWideEnd r choice step number) e
HasText r e (Limit face) = TakesAll r (IsFarEnd r face) e
HasText r e Memory = Keeps e.taken.before e.taken.after ⊎ TakesPart r r.IsText e
HasText r e WriteFault = TakesPart r r.IsText e
HasText r e status = Keeps e.taken.before e.taken.after

-- both
pub record IsAnswered (r : Room) (e : Edges) (status : Status) : Type 0 where
  pub cause : HasCause r e status
  pub text : HasText r e status

-- ---- completeness

-- the command stops nowhere on this input
pub record IsWithinReach (r : Room) (i : r.Input) : Type 0 where
  pub narrow : (choice : List ℕ) (step : ℕ) (number : ℤ) → ¬ (r.IsWide i choice step number)
  pub near : (face : ℕ) (key : List ℕ) → ¬ (r.IsFar i face key)

-- the source tells these bytes, which are within the limit; where nothing is to be read, these are none
abbrev pub IsGiven : Option ℕ → Edges → List ℕ → Type 0
IsGiven None e bytes = bytes ≡ []
IsGiven (Some limit) e bytes = (e.left.before ≡ Some bytes) × (length bytes ≤ limit)

-- the bytes that are given hold an input on which the command stops nowhere
pub record CanAnswer (r : Room) (e : Edges) : Type 0 where
  pub bytes : List ℕ
  pub given : IsGiven r.limit e bytes
  pub input : r.Input
  pub holds : r.Holds bytes input
  pub reach : IsWithinReach r input
