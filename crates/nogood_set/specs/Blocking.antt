-- Which entry of a set blocks a key.
use Rattle.std.specs.Prelude.{◌≡◌, ℕ, ◌<◌, ◌≤◌, List, take, length, slice_get, slice_index_or, Option, Some, None, ⊤, All}
use Rattle.ntfe_model.specs.Certificates.{IsBlockedBy}
use Rattle.ntfe_model.specs.declared.nogood.Nogood.{Nogood}

-- no entry blocks the key
abbrev pub NoneBlocks : List Nogood → List ℕ → Type 0
NoneBlocks entries key = All (λ n. ¬ (IsBlockedBy key n)) entries

-- the entry at this place blocks the key, and none before it does
pub record IsFirstBlocking (entries : List Nogood) (key : List ℕ) (place : ℕ) : Type 0 where
  pub entry : Nogood
  pub is : slice_get entries place ≡ Some entry
  pub blocks : IsBlockedBy key entry
  pub first : NoneBlocks (take place entries) key

-- a place, if one is given, is that of an entry that blocks the key
abbrev pub BlocksAt : List Nogood → List ℕ → Option ℕ → Type 0
BlocksAt entries key None = ⊤
BlocksAt entries key (Some at) = (at < length entries) × ((d : Nogood) → IsBlockedBy key (slice_index_or entries at d))

-- a place is given, and is not behind this one
abbrev pub IsAtMost : Option ℕ → ℕ → Type 0
IsAtMost None k = ⊥
IsAtMost (Some at) k = at ≤ k

-- no entry of this kind that blocks the key comes before the place
abbrev pub ComesFirst : List Nogood → List ℕ → (Nogood → Type 0) → Option ℕ → Type 0
ComesFirst entries key Kind first = (k : ℕ) (d : Nogood) → k < length entries → Kind (slice_index_or entries k d) → IsBlockedBy key (slice_index_or entries k d) → IsAtMost first k
