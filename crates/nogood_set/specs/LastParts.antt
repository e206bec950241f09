-- How the entries of a set are found by their last parts.
use Rattle.std.specs.Prelude.{◌≡◌, ◌≢◌, ℕ, ◌+◌, ◌<◌, ◌≤◌, List, [], ◌∷◌, ◌++◌, length, slice_index_or, Option, Some, None}
use Rattle.ntfe_model.specs.declared.nogood.Part.{Part}
use Rattle.ntfe_model.specs.declared.nogood.Nogood.{Nogood}

-- a two-face and the number of an item
abbrev pub Item : Type 0
Item = ℕ × ℕ

-- the last part of the entry is this item
abbrev pub EndsWith : Nogood → Item → Type 0
EndsWith n p = (front : List Part) × (n.parts ≡ front ++ record { face = p.0; item = p.1 } ∷ [])

-- no entry from one place up to another, which is not meant, ends with the item
abbrev pub NoneEnds : List Nogood → Item → ℕ → ℕ → Type 0
NoneEnds es p from to = (k : ℕ) (d : Nogood) → from ≤ k → k < to → ¬ (EndsWith (slice_index_or es k d) p)

-- the last place below this one whose entry ends with the item, if there is one
abbrev pub IsLatest : List Nogood → Item → ℕ → Option ℕ → Type 0
IsLatest es p to None = NoneEnds es p 0 to
IsLatest es p to (Some at) = (at < to) × ((d : Nogood) → EndsWith (slice_index_or es at d) p) × NoneEnds es p (at + 1) to

-- the first place whose entry has no parts, if there is one
abbrev pub IsFirstPartless : List Nogood → Option ℕ → Type 0
IsFirstPartless es None = (k : ℕ) (d : Nogood) → k < length es → (slice_index_or es k d).parts ≢ []
IsFirstPartless es (Some at) = (at < length es) × ((d : Nogood) → (slice_index_or es at d).parts ≡ []) × ((k : ℕ) (d : Nogood) → k < at → (slice_index_or es k d).parts ≢ [])

-- from the latest entry that ends with an item, each leads to the one before it that ends with the same item
pub record AreChained (es : List Nogood) (earlier : List (Option ℕ)) (latest : Item → Option ℕ) (partless : Option ℕ) : Type 0 where
  pub same : length earlier ≡ length es
  pub heads : (p : Item) → IsLatest es p (length es) (latest p)
  pub links : (k : ℕ) (o : Option ℕ) (p : Item) → k < length es → ((d : Nogood) → EndsWith (slice_index_or es k d) p) → IsLatest es p k (slice_index_or earlier k o)
  pub first : IsFirstPartless es partless
