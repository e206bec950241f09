-- The commands.
use Rattle.std.specs.Prelude.{◌≡◌, ◌⊎◌, ℕ, ◌-◌, max, List, ◌++◌, length, flat_map, Option, Some, None, ⊤}
use Rattle.ntfe_model.specs.Shapes.{Shape}
use Rattle.ntfe_model.specs.Keys.{MayOverflow, MayLimit}
use Rattle.ntfe_model.specs.FacesText.{faces_text}
use Rattle.ntfe_model.specs.RunText.{Form, Block, Kept, IsRunText, IsStoppedText, nothing_kept, head_due, block_text, limit_line}
use Rattle.ntfe_words.specs.declared.command.Command.{Command}
use Rattle.ntfe_words.specs.declared.command.Command.TheVariants as command
use Rattle.ntfe_words.specs.declared.command.Options.{Options}
use Rattle.steal_workers.specs.Listings.{Listed, AreBlocksTo}
use Rattle.ntfe_run.specs.Inputs.{IsInputOf, IsRefusalOf}
use Rattle.ntfe_run.specs.Earlier.{Begun, IsBegunInput, IsBegunRefusal}
use Rattle.ntfe_run.specs.Headline.{IsHeadlineText}
use Rattle.ntfe_run.specs.Demo.{IsDemoOf, IsDemoText, IsDemoHeadline, IsStoppedCount}
use Rattle.ntfe_run.specs.Rooms.{Room}

-- the greatest number of bytes that are read of a pair
abbrev pub input_limit : ℕ
input_limit = 65536

-- and of a pair with an earlier output
abbrev pub begun_limit : ℕ
begun_limit = 67_108_864

-- ---- a list of classes

abbrev pub form_of_options : Options → Form
form_of_options o = record { push = o.push; stars = o.stars }

-- what is to be listed where so much is kept
abbrev pub listed_with : Options → Shape → Kept → Listed
listed_with o g kept = record { geometry = g; form = form_of_options o; kept = kept.blocks; start = kept.last; limit = o.limit; width = o.width }

-- The text where the limit is reached: the head, where it is due, the first blocks, as many as the limit asks for beside the kept ones, and the last line
pub record IsDueText (l : Listed) (kept : Kept) (text : List ℕ) : Type 0 where
  pub limit : ℕ
  pub limited : l.limit ≡ Some limit
  pub last : Option (List ℕ)
  pub blocks : List Block
  pub are : AreBlocksTo l last blocks
  pub due : length blocks ≡ limit - l.kept
  pub is : text ≡ head_due l.geometry.pair l.form kept ++ flat_map block_text blocks ++ limit_line (max l.kept limit)

-- the text of a run, which lists exactly the extendable choices, or that of one that comes to its limit
abbrev pub IsListText : Listed → Kept → List ℕ → Type 0
IsListText l kept text = IsRunText l.geometry l.form kept l.limit text ⊎ IsDueText l kept text

-- `classes`: the text is that of a run, which lists exactly the extendable choices
abbrev pub classes_room : Options → Room
classes_room o = record {
  limit = Some input_limit;
  Input = Shape;
  Holds = IsInputOf;
  Refuses = IsRefusalOf;
  IsText = λ g text. IsListText (listed_with o g nothing_kept) nothing_kept text;
  IsWide = λ g choice step number. MayOverflow g None o.width choice step number;
  IsFar = λ g face key. MayLimit g None o.width face key;
  IsStopped = λ g bound text. IsStoppedText g (form_of_options o) nothing_kept o.limit bound text;
  IsHeadline = λ g text. o.limit ≡ None → IsHeadlineText (form_of_options o) g nothing_kept text;
}

-- `resume`: the text goes on after what is kept of an earlier output
abbrev pub resume_room : Options → Room
resume_room o = record {
  limit = Some begun_limit;
  Input = Begun;
  Holds = IsBegunInput (form_of_options o);
  Refuses = IsBegunRefusal (form_of_options o);
  IsText = λ i text. IsListText (listed_with o i.geometry i.kept) i.kept text;
  IsWide = λ i choice step number. MayOverflow i.geometry i.kept.last o.width choice step number;
  IsFar = λ i face key. MayLimit i.geometry i.kept.last o.width face key;
  IsStopped = λ i bound text. IsStoppedText i.geometry (form_of_options o) i.kept o.limit bound text;
  IsHeadline = λ i text. o.limit ≡ None → IsHeadlineText (form_of_options o) i.geometry i.kept text;
}

-- ---- the points and two-faces

abbrev pub faces_room : Room
faces_room = record {
  limit = Some input_limit;
  Input = Shape;
  Holds = IsInputOf;
  Refuses = IsRefusalOf;
  IsText = λ g text. text ≡ faces_text g;
  IsWide = λ g choice step number. ⊥;
  IsFar = λ g face key. ⊥;
  IsStopped = λ g bound text. ⊥;
  IsHeadline = λ g text. ⊤;
}

-- ---- the classes of a product of two polygons

-- `demo`: nothing is read, and the text tells of exactly the extendable choices, up to the limit
abbrev pub demo_room : ℕ → ℕ → Room
demo_room number width = record {
  limit = None;
  Input = Shape;
  Holds = λ bytes g. IsDemoOf number g;
  Refuses = λ bytes refusal. ⊥;
  IsText = IsDemoText number;
  IsWide = λ g choice step number. MayOverflow g None width choice step number;
  IsFar = λ g face key. MayLimit g None width face key;
  IsStopped = IsStoppedCount;
  IsHeadline = IsDemoHeadline number;
}

abbrev pub room_of : Command → Room
room_of (command.Classes o) = classes_room o
room_of (command.Resume o) = resume_room o
room_of command.Faces = faces_room
room_of (command.Demo number workers width) = demo_room number width
