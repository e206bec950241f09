-- The rule of one deque. What was put is what was taken and what the deque holds, however the keys are weighed.
use Rattle.std.specs.Prelude.{◌≡◌, ℕ, ◌+◌, List, [], ◌∷◌}
use mathlib.Core.Option.{some}
use lib.ListN.{get_elem?}
use Rattle.steal_ring.specs.declared.conservation.History.{History}

-- the numbers of a key
abbrev pub Numbers : Type 0
Numbers = List ℕ

-- the history of a pass: its parts of the right to know the whole, the keys that were put, and those that were taken
abbrev pub history : ℕ → List Numbers → List Numbers → History
history parts put taken = record { parts = parts; put = put; taken = taken }

-- the sum of the keys' weights. With the weight 1 for one key and 0 for all others it is how often that key stands in
-- the list, with the weight 1 for all keys the length
abbrev pub weigh : (Numbers → ℕ) → List Numbers → ℕ
weigh h [] = 0
weigh h (x ∷ xs) = h x + weigh h xs

-- the sum of f over the histories
abbrev pub total : (History → ℕ) → List History → ℕ
total f [] = 0
total f (x ∷ xs) = f x + total f xs

-- a pass without a part has put and taken nothing
abbrev pub IdleIsEmpty : List History → Type 0
IdleIsEmpty views = (port : ℕ) (v : History) → get_elem? views port ≡ some v → v.parts ≡ 0 → (v.put ≡ []) × (v.taken ≡ [])

-- the passes have two parts between them, and what they put is what they took and the items that are in the deque
abbrev pub IsConserved : List Numbers → List History → Type 0
IsConserved items views =
    (total (λ v. v.parts) views ≡ 2)
    × ((h : Numbers → ℕ) → total (λ v. weigh h v.put) views ≡ total (λ v. weigh h v.taken) views + weigh h items)
    × IdleIsEmpty views

-- at one moment the deque was empty, and this pass had put and taken what its history says
abbrev pub WasEmpty : History → Type 0
WasEmpty v = (views : List History) × (port : ℕ) × IsConserved [] views × (get_elem? views port ≡ some v)
