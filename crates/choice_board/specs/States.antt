-- What contracts see of a board, and which boards are sound.
use Rattle.std.specs.Prelude.{◌≡◌, ◌≢◌, ℕ, ◌<◌, Bool, List, length, Option, Some, All, AllPairs, Contains}
use Rattle.ntfe_model.specs.Lists.{IsBelow}
use Rattle.ntfe_model.specs.Shapes.{Shape, IsShape}
use Rattle.ntfe_model.specs.Choices.{IsChoice}
use Rattle.ntfe_model.specs.Keys.{IsKey, IsAfter, IsFar, IsPruned, IsClass, IsWideKey}
use Rattle.ntfe_model.specs.declared.nogood.Nogood.{Nogood}
use Rattle.choice_board.specs.Places.{Place, cone, under, IsIn}
use Rattle.choice_board.specs.declared.record.Record.{Record}
use Rattle.choice_board.specs.declared.record.Found.{Found}
use Rattle.choice_board.specs.declared.record.Found.TheVariants.{Class, Wide, Far}
use Rattle.choice_board.specs.declared.record.Stop.{Stop}
use Rattle.choice_board.specs.declared.record.Stop.TheVariants.{Wide as StopWide, Far as StopFar}
use Rattle.choice_board.specs.declared.totals.Totals.{Totals}

-- what contracts see of a board
pub record State : Type 0 where
  -- the geometry whose choices are listed
  pub geometry : Shape
  -- the class last handed out, or where the list begins, or nothing
  pub last : Option (List ℕ)
  -- the open keys, from the greatest down
  pub open_keys : List (List ℕ)
  -- the outcomes that are still to be handed out, from the greatest key down
  pub recorded : List Record
  -- the pruned keys with their certificates, in the order in which they came
  pub pruned : List (List ℕ × Nogood)
  -- what ended the listing, if anything did
  pub stop : Option Stop
  -- no open key is given out any more
  pub closed : Bool
  pub totals : Totals

-- what answers for a choice: an open key, a recorded outcome, a pruned key, or what ended the listing
pub data Holder : Type 0 where
  waits : List ℕ → Holder
  told : Record → Holder
  blocks : List ℕ × Nogood → Holder
  ends : Stop → Holder

-- the board has the holder
abbrev pub IsHolder : State → Holder → Type 0
IsHolder s (waits key) = Contains s.open_keys key
IsHolder s (told r) = Contains s.recorded r
IsHolder s (blocks p) = Contains s.pruned p
IsHolder s (ends x) = s.stop ≡ Some x

-- a far key answers for its cone, a class or a wide choice for itself
abbrev pub place_of_record : List ℕ → Found → Place
place_of_record key (Class choice w) = under key
place_of_record key (Wide choice step number) = under key
place_of_record key Far = cone key

abbrev pub place_of_stop : Stop → Place
place_of_stop (StopWide key) = under key
place_of_stop (StopFar key) = cone key

-- the choices that the holder answers for
abbrev pub place_of : Holder → Place
place_of (waits key) = cone key
place_of (told r) = place_of_record r.key r.found
place_of (blocks p) = under p.0
place_of (ends x) = place_of_stop x

-- what was found is true of the key
abbrev pub IsTrueRecord : Shape → List ℕ → Found → Type 0
IsTrueRecord g key (Class choice w) = IsClass g key w × (choice ≡ key)
IsTrueRecord g key (Wide choice step number) = IsWideKey g key step number × (choice ≡ key)
IsTrueRecord g key Far = IsFar g key

-- the lists are those of a sound board
pub record IsSound (s : State) : Type 0 where
  pub shape : IsShape s.geometry
  -- open keys are keys, in order, and above the last class
  pub keys : All (IsKey s.geometry) s.open_keys
  pub falling : AllPairs (λ j k. IsBelow k j) s.open_keys
  pub above : All (IsAfter s.last) s.open_keys
  -- recorded outcomes are true, in order, and above the last class
  pub record_keys : All (λ r. IsKey s.geometry r.key) s.recorded
  pub records : All (λ r. IsTrueRecord s.geometry r.key r.found) s.recorded
  pub records_falling : AllPairs (λ q r. IsBelow r.key q.key) s.recorded
  pub records_above : All (λ r. IsAfter s.last r.key) s.recorded
  -- each pruned key is blocked by its certificate, and stands once
  pub blocked : All (λ p. IsPruned s.geometry p.0 p.1) s.pruned
  pub once : AllPairs (λ p q. p.0 ≢ q.0) s.pruned
  -- each choice above the last class has a holder
  pub held : 0 < length s.geometry.faces → (choice : List ℕ) → IsChoice s.geometry choice → IsAfter s.last choice
      → (h : Holder) × IsHolder s h × IsIn (length s.geometry.faces) (place_of h) choice
  -- and no list of F numbers has two
  pub apart : (h i : Holder) (numbers : List ℕ) → IsHolder s h → IsHolder s i
      → IsIn (length s.geometry.faces) (place_of h) numbers → IsIn (length s.geometry.faces) (place_of i) numbers → h ≡ i
