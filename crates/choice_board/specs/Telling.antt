-- What a board hands out, and in which order.
use Rattle.std.specs.Prelude.{◌≡◌, ℕ, ◌+◌, ◌-◌, ◌<◌, ◌⊎◌, Bool, true, false, List, [], ◌∷◌, ◌++◌, length, Some, None, All, Contains}
use Rattle.ntfe_model.specs.Lists.{IsBelow}
use Rattle.ntfe_model.specs.Choices.{IsChoice}
use Rattle.ntfe_model.specs.Keys.{IsAfter, BeginsWith}
use Rattle.ntfe_model.specs.declared.nogood.Nogood.{Nogood}
use Rattle.choice_board.specs.States.{State, IsTrueRecord}
use Rattle.choice_board.specs.Settling.{counted, IsSettled}
use Rattle.choice_board.specs.declared.outcome.Outcome.{Outcome}
use Rattle.choice_board.specs.declared.outcome.Outcome.TheVariants.{Class, Wide, Far}
use Rattle.choice_board.specs.declared.record.Record.{Record}
use Rattle.choice_board.specs.declared.record.Found.{Found}
use Rattle.choice_board.specs.declared.record.Found.TheVariants.{Class as FoundClass, Wide as FoundWide, Far as FoundFar}
use Rattle.choice_board.specs.declared.record.Stop.TheVariants.{Wide as StopWide, Far as StopFar}
use Rattle.choice_board.specs.declared.totals.Totals.{Totals}
use Rattle.choice_board.specs.declared.verdict.Verdict.{Verdict}

-- what is told of a key where this was found
abbrev pub outcome_told : List ℕ → Found → Outcome
outcome_told key (FoundClass choice w) = Class choice w
outcome_told key (FoundWide choice step number) = Wide choice step number
outcome_told key FoundFar = Far (length key - 1)

-- the least open key
abbrev pub IsLeastOpen : State → List ℕ → Type 0
IsLeastOpen s key = Contains s.open_keys key × All (λ j. (j ≡ key) ⊎ IsBelow key j) s.open_keys

-- the least open key is closed with the verdict; else no key is given out, and nothing changes
abbrev pub IsLeastSettled : State → State → Verdict → Bool → Type 0
IsLeastSettled s t v true = (s.closed ≡ false) × ((key : List ℕ) × IsLeastOpen s key × IsSettled s t key v)
IsLeastSettled s t v false = ((s.closed ≡ true) ⊎ (s.open_keys ≡ [])) × (t ≡ s)

-- the least recorded outcome, and every open key is above it
pub record IsNext (s : State) (r : Record) : Type 0 where
  pub recorded : Contains s.recorded r
  pub least : All (λ q. (q ≡ r) ⊎ IsBelow r.key q.key) s.recorded
  pub clear : All (IsBelow r.key) s.open_keys

-- the choice begins with the head of a pruned key
abbrev pub IsBlocked : State → List ℕ → Type 0
IsBlocked s choice = (p : List ℕ × Nogood) × Contains s.pruned p × BeginsWith p.0 choice

-- each choice above the last class begins with the head of a pruned key, where there are two-faces
abbrev pub AreAllBlocked : State → Type 0
AreAllBlocked s = 0 < length s.geometry.faces → (choice : List ℕ) → IsChoice s.geometry choice → IsAfter s.last choice → IsBlocked s choice

-- the record leaves the board, and all but the last class, the stop and the totals stay
pub record IsTaken (s t : State) (key : List ℕ) (found : Found) : Type 0 where
  pub running : s.stop ≡ None
  pub next : IsNext s (record { key = key; found = found })
  pub is_true : IsTrueRecord s.geometry key found
  -- it is above the last class, and each choice between the two is blocked
  pub above : IsAfter s.last key
  pub between : (choice : List ℕ) → IsChoice s.geometry choice → IsAfter s.last choice → IsBelow choice key → IsBlocked s choice
  pub recorded : s.recorded ≡ t.recorded ++ record { key = key; found = found } ∷ []
  pub open_keys : t.open_keys ≡ s.open_keys
  pub pruned : t.pruned ≡ s.pruned
  pub geometry : t.geometry ≡ s.geometry
  pub closed : t.closed ≡ s.closed

-- the totals where one more class is handed out
abbrev pub totals_written : Totals → Totals
totals_written c = record c { written = counted c.written }

-- a class becomes the last class; a wide choice or a far key ends the listing
abbrev pub IsHandedOut : State → State → Outcome → Type 0
IsHandedOut s t (Class choice w) =
    IsTaken s t choice (FoundClass choice w) × (t.last ≡ Some choice) × (t.stop ≡ None) × (t.totals ≡ totals_written s.totals)
IsHandedOut s t (Wide choice step number) =
    IsTaken s t choice (FoundWide choice step number) × (t.last ≡ s.last) × (t.stop ≡ Some (StopWide choice)) × (t.totals ≡ s.totals)
IsHandedOut s t (Far face) =
    (key : List ℕ) × (length key ≡ face + 1) × IsTaken s t key FoundFar × (t.last ≡ s.last) × (t.stop ≡ Some (StopFar key)) × (t.totals ≡ s.totals)

-- the listing has not ended, and some recorded outcome comes before all open keys
abbrev pub HasNext : State → Type 0
HasNext s = (s.stop ≡ None) × ((r : Record) × IsNext s r)

-- nothing can be handed out: the listing has ended, or no recorded outcome comes before all open keys
abbrev pub IsWaiting : State → Type 0
IsWaiting s = ¬ (s.stop ≡ None) ⊎ ((r : Record) → ¬ (IsNext s r))
