-- The board while its keys are settled and its outcomes are written.
use Rattle.std.specs.Prelude.{◌≡◌, ◌<◌, ◌⊎◌, Bool, ℕ, zero, suc, ◌+◌, ◌*◌, min, true, false, List, [], ◌∷◌, length, Option, Some, None, ⊤, All, Contains}
use Rattle.ntfe_model.specs.Shapes.{Shape}
use Rattle.ntfe_model.specs.Choices.{IsExtendable}
use Rattle.ntfe_model.specs.Keys.{IsStart, IsAfter, IsLive, IsWideAt}
use Rattle.choice_board.specs.States.{State, IsSound}
use Rattle.choice_board.specs.declared.record.Record.{Record}
use Rattle.choice_board.specs.declared.record.Found.{Found}
use Rattle.choice_board.specs.declared.record.Found.TheVariants as found
use Rattle.steal_workers.specs.Listings.{Listed, Progress}

-- a wide choice or a far key that is recorded may be come to, and the choice is wide at this width
abbrev pub IsLiveRecord : Listed → List ℕ → Found → Type 0
IsLiveRecord l key (found.Class choice w) = ⊤
IsLiveRecord l key (found.Wide choice step number) = IsLive l.geometry l.start l.width key × IsWideAt l.geometry l.width key step number
IsLiveRecord l key found.Far = IsLive l.geometry l.start l.width key

-- all that waits on the board may be come to
pub record IsUnderWay (l : Listed) (s : State) : Type 0 where
  pub geometry : s.geometry ≡ l.geometry
  pub keys : All (IsLive l.geometry l.start l.width) s.open_keys
  pub records : All (λ r. IsLiveRecord l r.key r.found) s.recorded

-- a board that nothing has ended
pub record IsRunning (s : State) : Type 0 where
  pub not_stopped : s.stop ≡ None
  pub given_out : s.closed ≡ false

-- nothing is left to be settled or handed out
pub record IsOver (s : State) : Type 0 where
  pub no_key : s.open_keys ≡ []
  pub no_record : s.recorded ≡ []
  pub running : s.stop ≡ None

-- ---- what is left of a listing

-- more than any number of a key, by 2
abbrev pub key_base : ℕ
key_base = 1_048_578

-- its power
abbrev pub key_power : ℕ → ℕ
key_power zero = 1
key_power (suc n) = key_base * key_power n

-- the key as a number with so many digits, so that a greater key has a greater number
abbrev pub key_value : ℕ → List ℕ → ℕ
key_value zero ks = 0
key_value (suc n) [] = 0
key_value (suc n) (k ∷ ks) = (k + 1) * key_power n + key_value n ks

-- the least of the keys as a number; where there is none, more than any
abbrev pub least_value : ℕ → List (List ℕ) → ℕ
least_value n [] = key_power n
least_value n (k ∷ ks) = min (key_value n k) (least_value n ks)

-- ---- from one board to a later one

-- outcomes were handed out, and nothing else
pub record IsFewer (s t : State) : Type 0 where
  pub open_keys : t.open_keys ≡ s.open_keys
  pub given_out : t.closed ≡ s.closed
  pub geometry : t.geometry ≡ s.geometry
  pub recorded : (r : Record) → Contains t.recorded r → Contains s.recorded r

-- the least open key was settled
pub record IsOneOn (s t : State) : Type 0 where
  pub geometry : t.geometry ≡ s.geometry
  pub last : t.last ≡ s.last
  pub stop : t.stop ≡ s.stop
  pub closed : t.closed ≡ s.closed
  pub rises : least_value (length s.geometry.faces) s.open_keys < least_value (length s.geometry.faces) t.open_keys

-- where a key was open the least one was settled; else nothing was
abbrev pub HasSettledLeast : State → State → Bool → Type 0
HasSettledLeast s t true = IsOneOn s t
HasSettledLeast s t false = (t ≡ s) × (s.open_keys ≡ [])

-- whatever is under way with this geometry and width stays so
abbrev pub StaysUnderWay : Shape → ℕ → State → State → Type 0
StaysUnderWay g width s t = (l : Listed) → l.geometry ≡ g → l.width ≡ width → IsUnderWay l s → IsUnderWay l t

-- ---- a board and what writes its outcomes

-- the board's last class is the one last written, and all that waits on the board may be come to
pub record IsLevel (l : Listed) (written : Option (List ℕ)) (s : State) : Type 0 where
  pub last : s.last ≡ written
  pub under_way : IsUnderWay l s
  pub sound : IsSound s

-- the board's last class is the one last written, and the listing goes on
pub record IsAbreast (p : Progress) (s : State) : Type 0 where
  pub last : s.last ≡ p.last
  pub under_way : IsUnderWay p.listed s
  pub running : IsRunning s
  pub sound : IsSound s

-- ---- where a new board may begin

-- the start itself, or a class after it
abbrev pub IsStartOrClass : Listed → Option (List ℕ) → Type 0
IsStartOrClass l last = (last ≡ l.start) ⊎ ((c : List ℕ) × (last ≡ Some c) × IsExtendable l.geometry c × IsAfter l.start c)

-- a new board that begins there can go on with the listing
pub record IsPlace (l : Listed) (last : Option (List ℕ)) : Type 0 where
  pub from : IsStartOrClass l last
  pub near : IsStart l.geometry last
