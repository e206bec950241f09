-- What a clause sees of a victim, a seat and a ring.
use Rattle.std.specs.Prelude.{◌≡◌, ℕ, ◌<◌, ◌≤◌, ◌⊎◌, ◌^◌, ◌==◌, Bool, List, [], ◌∷◌, ◌++◌, length, map, All}
use Rattle.std.specs.List.{flat_map}
use Rattle.steal_ring.specs.Conservation.{Numbers}

-- what tells one deque from another
abbrev pub Deque : Type 0
Deque = ℕ × ℕ

-- a deque as its thief sees it: which one, the keys that were stolen from it, and how many keys are known to have been
-- taken from it, by whomever
pub record VictimView : Type 0 where
  pub deque : Deque
  pub stolen : List Numbers
  pub seen : ℕ

-- a seat: its number, whether it is the only one of its ring, its own deque, its right neighbour's, and the keys that it
-- put and popped
pub record SeatView : Type 0 where
  pub number : ℕ
  pub alone : Bool
  pub own : Deque
  pub right : VictimView
  pub put : List Numbers
  pub popped : List Numbers

-- the keys that it popped or stole
abbrev pub got : SeatView → List Numbers
got s = s.popped ++ s.right.stolen

-- one of its counts stands at the limit
abbrev pub IsWorn : SeatView → Type 0
IsWorn s = (length s.put ≡ 2 ^ 59) ⊎ (length (got s) ≡ 2 ^ 59)

-- the seat after it learnt that so many keys were taken from its victim
abbrev pub with_seen : SeatView → ℕ → SeatView
with_seen s seen = record s { right = record { deque = s.right.deque; stolen = s.right.stolen; seen = seen } }

-- the seat after it stole a key, and learnt that so many keys were taken from its victim
abbrev pub with_stolen : SeatView → Numbers → ℕ → SeatView
with_stolen s key seen = record s { right = record { deque = s.right.deque; stolen = s.right.stolen ++ key ∷ []; seen = seen } }

-- the first is moved behind the last
abbrev pub rotated : {X : Type 0} → List X → List X
rotated [] = []
rotated (x ∷ xs) = xs ++ x ∷ []

-- 1 to 16 seats, each of which steals from the next, and the last from the first
pub record IsRing (seats : List SeatView) : Type 0 where
  pub some : 0 < length seats
  pub few : length seats ≤ 16
  pub closed : map (λ s. s.right.deque) seats ≡ rotated (map (λ s. s.own) seats)
  pub lone : All (λ s. s.alone ≡ (length seats == 1)) seats

-- all keys that were put, seat by seat
abbrev pub all_put : List SeatView → List Numbers
all_put seats = flat_map (λ s. s.put) seats

-- all keys that were popped or stolen, seat by seat
abbrev pub all_got : List SeatView → List Numbers
all_got seats = flat_map got seats

-- the same seat of the same ring, whatever was done with it
pub record IsSameSeat (s t : SeatView) : Type 0 where
  pub number : t.number ≡ s.number
  pub alone : t.alone ≡ s.alone
  pub own : t.own ≡ s.own
  pub right : t.right.deque ≡ s.right.deque

-- the same seats, in the same order
abbrev pub AreSameSeats : List SeatView → List SeatView → Type 0
AreSameSeats [] ts = ts ≡ []
AreSameSeats (s ∷ ss) ts = (t : SeatView) × (rest : List SeatView) × (ts ≡ t ∷ rest) × IsSameSeat s t × AreSameSeats ss rest
