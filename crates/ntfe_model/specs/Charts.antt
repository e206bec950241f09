-- A two-face as a list of its points with their places; the turn of three points, unit triples and boundary steps.
use Rattle.std.specs.Prelude.{◌≡◌, ◌≢◌, ℕ, ◌<◌, ◌≤◌, ◌==◌, Bool, cond, not, ℤ, pos, negsuc, ◌-ℤ◌, List, [], ◌∷◌, map, Contains}
use Rattle.std.specs.List.{list_any}
use Rattle.std.specs.Ordering.{int_eq}
use Rattle.ntfe_model.specs.Lists.{IsListing, IsBefore2}
use Rattle.ntfe_nums.specs.Vectors.{Vector, origin, vector_sum, difference, multiple, area, sign}
use Rattle.ntfe_model.specs.Points.{place_of_point}
use Rattle.ntfe_model.specs.Shapes.{Shape, face_at}
use Rattle.ntfe_model.specs.declared.point.Point.{Point}
use Rattle.ntfe_model.specs.declared.face.Face.{Face}

-- a point of a face: its number and where it lies
pub record Spot : Type 0 where
  pub number : ℕ
  pub place : Vector

-- what a contract sees of a chart: the points of a face, by rising numbers
abbrev pub Patch : Type 0
Patch = List Spot

-- the patch of a two-face, given the list of all points
abbrev pub patch_of : List Point → Face → Patch
patch_of xs f = map (λ k. record { number = k; place = place_of_point xs k }) f.points

-- the patch of the two-face with this number; empty where there is no such two-face
abbrev pub patch_at : Shape → ℕ → Patch
patch_at g f = patch_of g.points (face_at g f)

abbrev pub spot_numbers : Patch → List ℕ
spot_numbers h = map (λ s. s.number) h

-- a is the number of a point of the face
abbrev pub IsOf : Patch → ℕ → Type 0
IsOf h a = Contains (spot_numbers h) a

-- where the point with this number lies, for a point of the face
abbrev pub place : Patch → ℕ → Vector
place [] k = origin
place (s ∷ h) k = cond (s.number == k) s.place (place h k)

-- no two points of the face lie in one place
abbrev pub AreApart : Patch → Type 0
AreApart h = (a b : ℕ) → IsOf h a → IsOf h b → place h a ≡ place h b → a ≡ b

-- ---- the turn

-- the coordinate pairs, in the order in which they are tried
abbrev pub axis_pairs : List (ℕ × ℕ)
axis_pairs = (1, 2) ∷ (1, 3) ∷ (1, 4) ∷ (2, 3) ∷ (2, 4) ∷ (3, 4) ∷ []

-- some three points have an area that is not zero
abbrev pub spans : Patch → ℕ × ℕ → Bool
spans h q = list_any (λ a. list_any (λ b. list_any (λ c. not (int_eq (area q a.place b.place c.place) (pos 0))) h) h) h

-- the first of the pairs that spans; (1, 2) where none does, which no two-face meets
abbrev pub first_that_spans : Patch → List (ℕ × ℕ) → ℕ × ℕ
first_that_spans h [] = (1, 2)
first_that_spans h (q ∷ qs) = cond (spans h q) q (first_that_spans h qs)

-- the face's coordinate pair: the first in which some three of its points have an area. All points count, not the corners alone.
unfoldable pub axes : Patch → ℕ × ℕ
axes h = first_that_spans h axis_pairs

-- 1 where a, b, c turn to the left, -1 where they turn to the right, 0 where they lie on a line
abbrev pub turn : Patch → ℕ → ℕ → ℕ → ℤ
turn h a b c = sign (area (axes h) (place h a) (place h b) (place h c))

-- ---- unit triples

-- a + s (b - a) + t (c - a)
abbrev pub reached : Vector → Vector → Vector → ℤ → ℤ → Vector
reached a b c s t = vector_sum a (vector_sum (multiple s (difference b a)) (multiple t (difference c a)))

-- a, b, c turn to the left, and each point of the face is reached from a by whole multiples of the sides b - a and c - a
pub record IsUnit (h : Patch) (a b c : ℕ) : Type 0 where
  pub points : IsOf h a × IsOf h b × IsOf h c
  pub left : turn h a b c ≡ pos 1
  pub reaches : (p : ℕ) → IsOf h p → (s : ℤ) × (t : ℤ) × (place h p ≡ reached (place h a) (place h b) (place h c) s t)

-- ---- boundary steps

-- x lies on the segment from a to b: n x = (n - s) a + s b, with 0 ≤ s ≤ n and n not 0
pub record IsOnSegment (a b x : Vector) : Type 0 where
  pub n : ℕ
  pub s : ℕ
  pub range : (0 < n) × (s ≤ n)
  pub mix : multiple (pos n) x ≡ vector_sum (multiple (pos n -ℤ pos s) a) (multiple (pos s) b)

-- from a to b is a boundary step: no point of the face lies to the right of it, and none between its ends
pub record IsStep (h : Patch) (a b : ℕ) : Type 0 where
  pub points : IsOf h a × IsOf h b × (a ≢ b)
  pub outer : (p : ℕ) → IsOf h p → turn h a b p ≢ negsuc 0
  pub next : (p : ℕ) → IsOf h p → p ≢ a → p ≢ b → ¬ (IsOnSegment (place h a) (place h b) (place h p))

-- the list of the boundary steps, in order
abbrev pub AreSteps : Patch → List (ℕ × ℕ) → Type 0
AreSteps h es = IsListing (λ e f. IsBefore2 e.0 e.1 f.0 f.1) (λ e. IsStep h e.0 e.1) es
