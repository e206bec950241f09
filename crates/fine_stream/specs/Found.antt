-- What a search finds: of the words that lead on to the end, the first with a property, or none.
use Rattle.std.specs.Prelude.{◌≡◌, ℕ, ◌<◌, List, [], ◌∷◌, ◌++◌, Option, Some, None, ⊤}
use Rattle.ntfe_model.specs.Lists.{IsBelow}
use Rattle.ntfe_model.specs.Charts.{Patch}
use Rattle.ntfe_model.specs.declared.triangle.Triangle.{Triangle}
use Rattle.fine_stream.specs.Paths.{Completes}
use Rattle.fine_stream.specs.Kept.{waiting_after, Keeps}
use Rattle.fine_stream.specs.declared.path.Path.{Path}

-- the number comes after the limit, if there is one
abbrev pub IsAfter : Option ℕ → ℕ → Type 0
IsAfter None c = ⊤
IsAfter (Some limit) c = limit < c

-- the word is empty, or its first number comes after the limit
abbrev pub BeginsAfter : Option ℕ → List ℕ → Type 0
BeginsAfter limit [] = ⊤
BeginsAfter limit (c ∷ word) = IsAfter limit c

-- the word's first number is c, which comes after the limit
abbrev pub BeginsWith : Option ℕ → ℕ → List ℕ → Type 0
BeginsWith limit c [] = ⊥
BeginsWith limit c (d ∷ word) = (d ≡ c) × IsAfter limit c

-- of the words with the property that lead on to the end, this is the first
pub record IsFirst (h : Patch) (ts : List Triangle) (steps : List (ℕ × ℕ)) (P : List ℕ → Type 0) (word : List ℕ) (us : List Triangle) : Type 0 where
  pub completes : Completes h ts steps word us
  pub has : P word
  pub first : (v : List ℕ) (vs : List Triangle) → Completes h ts steps v vs → P v → ¬ (IsBelow v word)

-- no word with the property leads on to the end
abbrev pub HasNone : Patch → List Triangle → List (ℕ × ℕ) → (List ℕ → Type 0) → Type 0
HasNone h ts steps P = (v : List ℕ) (vs : List Triangle) → Completes h ts steps v vs → P v → ⊥

-- the first word was added to the path, with its triples
pub record Adds (h : Patch) (steps : List (ℕ × ℕ)) (P : List ℕ → Type 0) (before after : Path) : Type 0 where
  pub word : List ℕ
  pub triangles : List Triangle
  pub is : IsFirst h before.triangles.items steps P word triangles
  pub words : after.word.items ≡ before.word.items ++ word
  pub all : after.triangles.items ≡ before.triangles.items ++ triangles
  pub kept : (root : List (ℕ × ℕ)) (r : List ℕ) → Keeps root r before → steps ≡ waiting_after root r → (v : List ℕ) × Keeps root v after

-- there is no word, and the path with its steps is as before
pub record AddsNone (h : Patch) (steps : List (ℕ × ℕ)) (P : List ℕ → Type 0) (before after : Path) : Type 0 where
  pub none : HasNone h before.triangles.items steps P
  pub words : after.word.items ≡ before.word.items
  pub all : after.triangles.items ≡ before.triangles.items
  pub waiting : after.steps.items ≡ before.steps.items
  pub starts : after.starts.items ≡ before.starts.items
