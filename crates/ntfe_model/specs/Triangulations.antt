-- Fine triangulations of a two-face.
use Rattle.std.specs.Prelude.{◌≡◌, ℕ, ◌<◌, ◌≤◌, ◌⊎◌, ◌↔◌, pos, ◌-ℤ◌, List, Contains}
use Rattle.ntfe_nums.specs.Vectors.{Vector, vector_sum, multiple}
use Rattle.ntfe_model.specs.Charts.{Patch, place, IsUnit, IsStep}
use Rattle.ntfe_model.specs.declared.triangle.Triangle.{Triangle}

-- (x, y) is a directed side of the triple
abbrev pub HasSide : Triangle → ℕ → ℕ → Type 0
HasSide t x y = ((t.a ≡ x) × (t.b ≡ y)) ⊎ ((t.b ≡ x) × (t.c ≡ y)) ⊎ ((t.c ≡ x) × (t.a ≡ y))

-- the triple is x, y, z up to rotation: it has the side (x, y) and the third point z
abbrev pub IsRotationOf : Triangle → ℕ → ℕ → ℕ → Type 0
IsRotationOf t x y z = ((t.a ≡ x) × (t.b ≡ y) × (t.c ≡ z)) ⊎ ((t.b ≡ x) × (t.c ≡ y) × (t.a ≡ z)) ⊎ ((t.c ≡ x) × (t.a ≡ y) × (t.b ≡ z))

-- triples that differ by rotation are one triple
abbrev pub IsSameTriple : Triangle → Triangle → Type 0
IsSameTriple t u = IsRotationOf t u.a u.b u.c

-- some triple of the list has the side
abbrev pub IsSide : List Triangle → ℕ → ℕ → Type 0
IsSide ts x y = (t : Triangle) × Contains ts t × HasSide t x y

-- the triple is in the set that the list stands for
abbrev pub IsTripleOf : List Triangle → Triangle → Type 0
IsTripleOf ts t = (u : Triangle) × Contains ts u × IsSameTriple u t

-- n times the point that divides the segment from a to b as s to n - s
abbrev pub mixed : ℕ → ℕ → Vector → Vector → Vector
mixed n s a b = vector_sum (multiple (pos n -ℤ pos s) a) (multiple (pos s) b)

-- the point, n times taken, is an end of the segment
abbrev pub IsEndOf : ℕ → Vector → Vector → Vector → Type 0
IsEndOf n p a b = (p ≡ multiple (pos n) a) ⊎ (p ≡ multiple (pos n) b)

-- the segments from a to b and from c to d meet in a point that is not an end of both
pub record DoCross (a b c d : Vector) : Type 0 where
  pub n : ℕ
  pub s : ℕ
  pub t : ℕ
  pub range : (0 < n) × (s ≤ n) × (t ≤ n)
  pub meet : mixed n s a b ≡ mixed n t c d
  pub no_end : ¬ (IsEndOf n (mixed n s a b) a b × IsEndOf n (mixed n s a b) c d)

-- the sides have the same two ends
abbrev pub HaveSameEnds : ℕ → ℕ → ℕ → ℕ → Type 0
HaveSameEnds a b c d = ((a ≡ c) × (b ≡ d)) ⊎ ((a ≡ d) × (b ≡ c))

-- The set of triples that the list stands for is a fine triangulation: unit triples; no directed side in two of them; the sides whose reverse
-- is no side are exactly the boundary steps; and no two sides with different sets of ends cross. A triple that is repeated or rotated changes nothing.
pub record IsFine (h : Patch) (ts : List Triangle) : Type 0 where
  pub unit : (t : Triangle) → Contains ts t → IsUnit h t.a t.b t.c
  pub once : (t u : Triangle) → Contains ts t → Contains ts u → (x y : ℕ) → HasSide t x y → HasSide u x y → IsSameTriple t u
  pub edge : (x y : ℕ) → (IsSide ts x y × ¬ (IsSide ts y x)) ↔ IsStep h x y
  pub apart : (a b c d : ℕ) → IsSide ts a b → IsSide ts c d → ¬ (HaveSameEnds a b c d) → ¬ (DoCross (place h a) (place h b) (place h c) (place h d))
