-- What is added to a list of triples, in any order and with any repeats.
use Rattle.std.specs.Prelude.{◌≡◌, ℕ, ◌⊎◌, List, [], ◌∷◌, Contains, slice_index}
use Rattle.ntfe_model.specs.declared.triangle.Triangle.{Triangle}

-- the new list has what the old one had, and exactly the triples with P besides
pub record Gathers (P : ℕ → ℕ → ℕ → Type 0) (old new : List (List ℕ)) : Type 0 where
  pub sound : (t : List ℕ) → Contains new t → Contains old t ⊎ ((a : ℕ) × (b : ℕ) × (c : ℕ) × (t ≡ a ∷ b ∷ c ∷ []) × P a b c)
  pub kept : (t : List ℕ) → Contains old t → Contains new t
  pub complete : (a b c : ℕ) → P a b c → Contains new (a ∷ b ∷ c ∷ [])

abbrev pub triangle_of : List ℕ → Triangle
triangle_of t = record { a = slice_index t 0; b = slice_index t 1; c = slice_index t 2 }
