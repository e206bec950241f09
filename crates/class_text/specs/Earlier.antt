-- What is kept of an earlier output, and the first line of it that is not in place.
use Rattle.std.specs.Prelude.{◌≡◌, ℕ, ◌+◌, ◌<◌, ◌≤◌, List, [], ◌∷◌, ◌++◌, length, slice_get, Option, Some, None}
use Rattle.ntfe_model.specs.Lists.{IsLeast}
use Rattle.ntfe_model.specs.RunText.{Block, Kept}
use Rattle.ntfe_model.specs.Earlier.{Layout, Reading, Reads, IsAllowed, IsHeadFault, IsBodyFault, whole_lines}
use Rattle.ntfe_model.specs.Earlier.Place.{class_or_end}
use Rattle.class_text.specs.Readers.{reading_of}
use Rattle.class_text.specs.declared.earlier.Earlier.{Earlier}
use Rattle.class_text.specs.declared.reader.Reader.{Reader}
use Rattle.class_text.specs.declared.earlier_fault.EarlierFault.{EarlierFault}
use Rattle.class_text.specs.declared.earlier_fault.EarlierFault.TheVariants.{Head, Body, Memory}

abbrev pub kept_of : Earlier → Kept
kept_of e = record { bytes = e.kept; blocks = e.count; last = e.last }

-- the choice of the last block, or the start where there is none
abbrev pub last_choice : Option (List ℕ) → List Block → Option (List ℕ)
last_choice start [] = start
last_choice start (b ∷ bs) = last_choice (Some b.choice) bs

-- why an earlier output does not go with a run
abbrev pub HasCause : Layout → List ℕ → EarlierFault → Type 0
HasCause l bytes (Head line) = IsHeadFault l bytes line
HasCause l bytes (Body line) = IsBodyFault l bytes line
HasCause l bytes Memory = Unit {0}

-- ---- the lines of a head

-- all whole lines of the text are the head's first ones, and some are missing
abbrev pub IsShorter : List ℕ → List ℕ → Type 0
IsShorter head bytes = (missing : List (List ℕ)) × (0 < length missing) × (whole_lines head ≡ whole_lines bytes ++ missing)

-- the text begins with the head's lines, so many, and goes on with the rest
pub record IsBehind (head bytes : List ℕ) (lines : ℕ) (rest : List ℕ) : Type 0 where
  pub are : whole_lines bytes ≡ whole_lines head ++ whole_lines rest
  pub number : lines ≡ length (whole_lines head)
  pub room : lines + length rest ≤ length bytes

-- a line of the text differs from the head's
abbrev pub DiffersAt : List ℕ → List ℕ → ℕ → Type 0
DiffersAt head bytes i =
    (line : List ℕ) × (due : List ℕ) × (slice_get (whole_lines bytes) i ≡ Some line) × (slice_get (whole_lines head) i ≡ Some due) × ¬ (line ≡ due)

-- the fault tells of the first line that differs
abbrev pub IsDifferent : List ℕ → List ℕ → EarlierFault → Type 0
IsDifferent head bytes (Head line) = (i : ℕ) × IsLeast (DiffersAt head bytes) i × (line ≡ i + 1)
IsDifferent head bytes (Body line) = ⊥
IsDifferent head bytes Memory = ⊥

-- ---- the lines behind it

-- behind a head of so many bytes
abbrev pub behind : ℕ → Reading
behind head = record { place = class_or_end; read = head; kept = record { bytes = head; blocks = 0; last = None } }

-- all whole lines are allowed, and lead to where the reader is
abbrev pub IsReadTo : Layout → ℕ → List ℕ → Reader → Type 0
IsReadTo l head rest r = Reads l (behind head) (whole_lines rest) (reading_of r)

-- the line with this number, counted on from those before, is the first that is not allowed in its place
pub record IsFirstRefused (l : Layout) (head : ℕ) (rest : List ℕ) (before number : ℕ) : Type 0 where
  pub good : List (List ℕ)
  pub line : List ℕ
  pub more : List (List ℕ)
  pub at : Reading
  pub lines : whole_lines rest ≡ good ++ line ∷ more
  pub reads : Reads l (behind head) good at
  pub refused : (t : Reading) → ¬ (IsAllowed l at at.place line t)
  pub number_is : number ≡ before + length good + 1

abbrev pub IsRefusedAt : Layout → ℕ → List ℕ → ℕ → EarlierFault → Type 0
IsRefusedAt l head rest before (Head line) = ⊥
IsRefusedAt l head rest before (Body line) = IsFirstRefused l head rest before line
IsRefusedAt l head rest before Memory = Unit {0}
