-- A list of classes: what is to be listed, how far it has come, and how it ends.
use Rattle.std.specs.Prelude.{◌≡◌, ℕ, ◌+◌, ◌-◌, ◌^◌, ◌<◌, ◌≤◌, ◌⊎◌, min, max, List, length, flat_map, Option, Some, None, ⊤}
use Rattle.std.specs.Io.KnownBytes.{Appends}
use Rattle.io_edge.specs.Causes.{AppendsPrefix}
use Rattle.io_edge.specs.Changes.{Change}
use Rattle.ntfe_model.specs.Lists.{IsListing, IsBelow}
use Rattle.ntfe_model.specs.Shapes.{Shape}
use Rattle.ntfe_model.specs.Choices.{IsExtendable}
use Rattle.ntfe_model.specs.Keys.{IsAfter, IsClass, MayOverflow, MayLimit}
use Rattle.ntfe_model.specs.RunText.{Form, Block, IsBlockOf, AreBlocks, IsUnderLimit, block_text}
use Rattle.choice_board.specs.declared.outcome.Outcome.{Outcome}
use Rattle.choice_board.specs.declared.outcome.Outcome.TheVariants as outcome
pub use Rattle.class_text.specs.Earlier.{last_choice}
use Rattle.steal_workers.specs.declared.served.Served.{Served}
use Rattle.steal_workers.specs.declared.served.Served.TheVariants as served

-- the bytes that a sink has taken, before some calls and after them, where it tells
abbrev pub Bytes : Type 0
Bytes = Change (Option (List ℕ))

-- ---- what is to be listed

-- the classes of a geometry after a start, in a form, where so many blocks are kept from an earlier output, up to a limit,
-- with solver numbers below 2^width in size
pub record Listed : Type 0 where
  pub geometry : Shape
  pub form : Form
  pub kept : ℕ
  pub start : Option (List ℕ)
  pub limit : Option ℕ
  pub width : ℕ

-- ---- how far it has come

-- the choice is the last class or lies below it
abbrev pub IsUpTo : Option (List ℕ) → List ℕ → Type 0
IsUpTo None choice = ⊥
IsUpTo (Some last) choice = (choice ≡ last) ⊎ IsBelow choice last

-- the blocks of exactly the extendable choices after the start up to the last class, in order
abbrev pub AreBlocksTo : Listed → Option (List ℕ) → List Block → Type 0
AreBlocksTo l last bs = IsListing (λ b c. IsBelow b.choice c.choice) (λ b. IsBlockOf l.geometry l.form l.start b × IsUpTo last b.choice) bs

-- the blocks of exactly the extendable choices after the start that lie below a choice or key, in order
abbrev pub AreBlocksBelow : Listed → List ℕ → List Block → Type 0
AreBlocksBelow l bound bs = IsListing (λ b c. IsBelow b.choice c.choice) (λ b. IsBlockOf l.geometry l.form l.start b × IsBelow b.choice bound) bs

-- no more blocks than the limit asks for, the kept ones counted too
abbrev pub IsWithinLimit : Option ℕ → ℕ → ℕ → Type 0
IsWithinLimit None kept new = ⊤
IsWithinLimit (Some n) kept new = new ≤ n - kept

-- a number of 32 bits
abbrev pub IsSmallLimit : Option ℕ → Type 0
IsSmallLimit limit = (n : ℕ) → limit ≡ Some n → n < 2 ^ 32

-- the limit, if there is one, is reached with so many blocks
abbrev pub IsAtLimit : Option ℕ → ℕ → Type 0
IsAtLimit None count = ⊥
IsAtLimit (Some n) count = n ≤ count

-- the last class, or the start where there is none yet, and the number of blocks, the kept ones counted too, up to 2^63
pub record Progress : Type 0 where
  pub listed : Listed
  pub last : Option (List ℕ)
  pub count : ℕ

abbrev pub at_start : Listed → Progress
at_start l = record { listed = l; last = l.start; count = min (2 ^ 63) l.kept }

-- the blocks up to the last class were taken, no more than the limit asks for, and the count is right
pub record HasWritten (p : Progress) (bytes : Bytes) : Type 0 where
  pub blocks : List Block
  pub are : AreBlocksTo p.listed p.last blocks
  pub within : IsWithinLimit p.listed.limit p.listed.kept (length blocks)
  pub last : p.last ≡ last_choice p.listed.start blocks
  pub counted : p.count ≡ min (2 ^ 63) (p.listed.kept + length blocks)
  pub took : Appends bytes.before bytes.after (flat_map block_text blocks)

-- ---- what comes next

-- the choice or key is above the last class, and no extendable choice lies between the two
pub record ComesNext (g : Shape) (last : Option (List ℕ)) (key : List ℕ) : Type 0 where
  pub above : IsAfter last key
  pub none_between : (c : List ℕ) → IsExtendable g c → IsAfter last c → IsBelow c key → ⊥

-- no extendable choice is above the last class
abbrev pub NoneIsLeft : Shape → Option (List ℕ) → Type 0
NoneIsLeft g last = (c : List ℕ) → IsExtendable g c → IsAfter last c → ⊥

-- The outcome is true and comes next: a class with its heights; a choice on which a run with this start and width may stop, since the
-- solver's numbers are too wide; or the end of a key on which it may stop, since the items of its last two-face are too many
abbrev pub IsNextOutcome : Listed → Option (List ℕ) → Outcome → Type 0
IsNextOutcome l last (outcome.Class choice w) = IsClass l.geometry choice w × ComesNext l.geometry last choice
IsNextOutcome l last (outcome.Wide choice step number) = MayOverflow l.geometry l.start l.width choice step number × ComesNext l.geometry last choice
IsNextOutcome l last (outcome.Far face) = (key : List ℕ) × MayLimit l.geometry l.start l.width face key × ComesNext l.geometry last key

-- ---- how it ends

-- the blocks of all extendable choices after the start were taken, fewer than the limit asks for
pub record TakesAll (l : Listed) (bytes : Bytes) (count : ℕ) (last : Option (List ℕ)) : Type 0 where
  pub blocks : List Block
  pub are : AreBlocks l.geometry l.form l.start blocks
  pub under : IsUnderLimit l.limit (l.kept + length blocks)
  pub counted : count ≡ min (2 ^ 63) (l.kept + length blocks)
  pub last_is : last ≡ last_choice l.start blocks
  pub took : Appends bytes.before bytes.after (flat_map block_text blocks)

-- the first blocks were taken, as many as the limit asks for beside the kept ones
pub record TakesDue (l : Listed) (bytes : Bytes) (count : ℕ) (last : Option (List ℕ)) : Type 0 where
  pub limit : ℕ
  pub limited : l.limit ≡ Some limit
  pub blocks : List Block
  pub are : AreBlocksTo l last blocks
  pub due : length blocks ≡ limit - l.kept
  pub counted : count ≡ max l.kept limit
  pub last_is : last ≡ last_choice l.start blocks
  pub took : Appends bytes.before bytes.after (flat_map block_text blocks)

-- all blocks below a choice or key were taken, fewer than the limit asks for
pub record TakesBelow (l : Listed) (bytes : Bytes) (bound : List ℕ) : Type 0 where
  pub blocks : List Block
  pub are : AreBlocksBelow l bound blocks
  pub under : IsUnderLimit l.limit (l.kept + length blocks)
  pub took : Appends bytes.before bytes.after (flat_map block_text blocks)

-- a prefix of the first blocks was taken, no more than the limit asks for
pub record TakesPart (l : Listed) (bytes : Bytes) : Type 0 where
  pub blocks : List Block
  pub last : Option (List ℕ)
  pub are : AreBlocksTo l last blocks
  pub within : IsWithinLimit l.limit l.kept (length blocks)
  pub took : AppendsPrefix bytes.before bytes.after (flat_map block_text blocks)

-- what each end of the list says, and what was taken
abbrev pub HasServed : Listed → Bytes → Served → Type 0
HasServed l bytes (served.End count last) = TakesAll l bytes count last
HasServed l bytes (served.Limit count last) = TakesDue l bytes count last
HasServed l bytes (served.Wide choice step number) = MayOverflow l.geometry l.start l.width choice step number × TakesBelow l bytes choice
HasServed l bytes (served.Far face) = (key : List ℕ) × MayLimit l.geometry l.start l.width face key × TakesBelow l bytes key
HasServed l bytes served.WriteFault = TakesPart l bytes
HasServed l bytes served.Memory = TakesPart l bytes

-- ---- calls that go on

-- what had been written up to the one is written up to the other, from wherever the bytes are counted
abbrev pub GoesOn : Progress → Progress → Bytes → Type 0
GoesOn p q bytes = (earlier : Option (List ℕ)) → HasWritten p (record { before = earlier; after = bytes.before }) → HasWritten q (record { before = earlier; after = bytes.after })

-- where all up to here had been written, the list has ended so
abbrev pub EndsAs : Progress → Bytes → Served → Type 0
EndsAs p bytes s = (earlier : Option (List ℕ)) → HasWritten p (record { before = earlier; after = bytes.before }) → HasServed p.listed (record { before = earlier; after = bytes.after }) s
