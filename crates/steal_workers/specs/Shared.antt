-- The board that workers share, and what is seen of it in one moment under its lock.
use Rattle.std.specs.Prelude.{◌≡◌, ℕ, ◌^◌, min, List, [], ◌∷◌, Option, Some, ⊤}
use Rattle.ntfe_model.specs.Shapes.{Shape}
use Rattle.ntfe_model.specs.Keys.{IsKey}
use Rattle.choice_board.specs.States.{State, IsSound}
use Rattle.choice_board.specs.Telling.{IsHandedOut}
use Rattle.choice_board.specs.declared.outcome.Outcome.{Outcome}
use Rattle.choice_board.specs.declared.outcome.Outcome.TheVariants as outcome
use Rattle.steal_workers.specs.Listings.{Listed, IsNextOutcome, NoneIsLeft}
use Rattle.steal_workers.specs.Boards.{IsUnderWay}
use Rattle.steal_workers.specs.declared.look.Look.{Look}
use Rattle.steal_workers.specs.declared.look.Look.TheVariants.{Row, Done, Waiting, Foreign}

-- what lies under the lock: the board, the width and the start of its pool, and the number of keys that the workers booked as settled
pub record Shared : Type 0 where
  pub board : State
  pub width : ℕ
  pub start : Option (List ℕ)
  pub booked : ℕ

-- the listing is of this geometry, start and width
pub record IsListedOn (s : Shared) (l : Listed) : Type 0 where
  pub geometry : l.geometry ≡ s.board.geometry
  pub start : l.start ≡ s.start
  pub width : l.width ≡ s.width

-- the board is sound, all that waits on it may be come to from its start, and its total of settled keys is what was booked, up to 2^63
pub record IsShared (s : Shared) : Type 0 where
  pub sound : IsSound s.board
  pub under_way : (l : Listed) → IsListedOn s l → IsUnderWay l s.board
  pub tied : s.board.totals.settled ≡ min (2 ^ 63) s.booked

-- the same geometry, width and start
pub record IsSameListing (s t : Shared) : Type 0 where
  pub geometry : t.board.geometry ≡ s.board.geometry
  pub width : t.width ≡ s.width
  pub start : t.start ≡ s.start

-- the choice of a class is a key, so its numbers are within reach
abbrev pub IsKeyed : Shape → Outcome → Type 0
IsKeyed g (outcome.Class choice w) = IsKey g choice
IsKeyed g (outcome.Wide choice step number) = ⊤
IsKeyed g (outcome.Far face) = ⊤

-- the outcomes were handed out one after the other
abbrev pub AreHandedOut : State → State → List Outcome → Type 0
AreHandedOut s t [] = t ≡ s
AreHandedOut s t (o ∷ os) = (u : State) × IsHandedOut s u o × IsSound u × AreHandedOut u t os

-- a class that is written is the last one then; a wide choice or a far key leaves the last one
abbrev pub last_after : Option (List ℕ) → Outcome → Option (List ℕ)
last_after last (outcome.Class choice w) = Some choice
last_after last (outcome.Wide choice step number) = last
last_after last (outcome.Far face) = last

-- each outcome comes next after the one before it
abbrev pub IsRow : Listed → Option (List ℕ) → List Outcome → Type 0
IsRow l last [] = ⊤
IsRow l last (o ∷ os) = IsNextOutcome l last o × IsKeyed l.geometry o × IsRow l (last_after last o) os

-- What one moment under the lock tells whoever wrote the classes of a listing up to the last one: a row of what comes next, or that nothing is left
abbrev pub IsLook : Listed → Option (List ℕ) → List Outcome → Look → Type 0
IsLook l last os Row = IsRow l last os
IsLook l last os Done = NoneIsLeft l.geometry last
IsLook l last os Waiting = ⊤
IsLook l last os Foreign = ⊤
