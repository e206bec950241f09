-- What comes of any calls on a board, one after the other.
use Rattle.std.specs.Prelude.{◌≡◌, ℕ, ◌<◌, ◌⊎◌, true, List, [], ◌∷◌, ◌++◌, length, Option, Some, All, AllPairs, Contains}
use Rattle.ntfe_model.specs.Lists.{IsBelow}
use Rattle.ntfe_model.specs.Shapes.{Shape}
use Rattle.ntfe_model.specs.Choices.{IsChoice, IsExtendable}
use Rattle.ntfe_model.specs.Keys.{IsAfter, IsPruned}
use Rattle.choice_board.specs.States.{State}
use Rattle.choice_board.specs.Starts.{new_board}
use Rattle.choice_board.specs.Settling.{IsSettledAs}
use Rattle.choice_board.specs.Verdicts.{IsTrueOf}
use Rattle.choice_board.specs.Telling.{IsHandedOut, IsBlocked, AreAllBlocked}
use Rattle.choice_board.specs.declared.outcome.Outcome.{Outcome}
use Rattle.choice_board.specs.declared.outcome.Outcome.TheVariants.{Class, Wide, Far}
use Rattle.choice_board.specs.declared.verdict.Settled.{Settled}
use Rattle.choice_board.specs.declared.verdict.Verdict.{Verdict}

-- a key was settled with a verdict, an outcome was handed out, or the board was closed
pub data Event : Type 0 where
  settles : List ℕ → Verdict → Settled → Event
  tells : Outcome → Event
  closes : Event

-- what the call with this event asks and does; a verdict is true
abbrev pub IsStep : State → Event → State → Type 0
IsStep s (settles key v a) t = IsTrueOf s.geometry key v × IsSettledAs s t key v a
IsStep s (tells o) t = IsHandedOut s t o
IsStep s closes t = t ≡ record s { closed = true }

-- the events, the newest first, lead from a new board to this one
abbrev pub IsCourse : Shape → Option (List ℕ) → List Event → State → Type 0
IsCourse g after [] t = t ≡ new_board g after
IsCourse g after (e ∷ es) t = (s : State) × IsCourse g after es s × IsStep s e t

-- the class that was handed out, if it was one
abbrev pub class_told : Event → List (List ℕ)
class_told (settles key v a) = []
class_told (tells (Class choice w)) = choice ∷ []
class_told (tells (Wide choice step number)) = []
class_told (tells (Far face)) = []
class_told closes = []

-- the classes that were handed out, the newest first
abbrev pub classes_told : List Event → List (List ℕ)
classes_told [] = []
classes_told (e ∷ es) = class_told e ++ classes_told es

-- the newest class, else where the list begins
abbrev pub newest : Option (List ℕ) → List (List ℕ) → Option (List ℕ)
newest after [] = after
newest after (c ∷ cs) = Some c

-- the classes that were handed out are a list without gaps
pub record IsWithoutGaps (g : Shape) (after : Option (List ℕ)) (classes : List (List ℕ)) (t : State) : Type 0 where
  pub geometry : t.geometry ≡ g
  pub last : t.last ≡ newest after classes
  -- each comes after the one before, and all above the start
  pub falling : AllPairs (λ j k. IsBelow k j) classes
  pub above : All (IsAfter after) classes
  pub extendable : All (IsExtendable g) classes
  -- each pruned key is blocked by its certificate
  pub certified : All (λ p. IsPruned g p.0 p.1) t.pruned
  -- each choice above the start is above the last class, or was handed out, or begins with a pruned key
  pub covers : (c : List ℕ) → IsChoice g c → IsAfter after c → IsAfter t.last c ⊎ Contains classes c ⊎ IsBlocked t c
  -- and on a board that is finished and has not stopped, each was handed out or begins with a pruned key
  pub whole : AreAllBlocked t → 0 < length g.faces → (c : List ℕ) → IsChoice g c → IsAfter after c → Contains classes c ⊎ IsBlocked t c
