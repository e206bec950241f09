-- Choices, heights above triples, folds, and extendable choices.
use Rattle.std.specs.Prelude.{◌≡◌, ◌≢◌, ℕ, ◌-◌, ◌<◌, ◌⊎◌, ℤ, pos, ◌+ℤ◌, ◌-ℤ◌, ◌*ℤ◌, ◌<ℤ◌, List, length, slice_index, slice_index_or, Contains, unsigned_abs, ◌≤◌}
use Rattle.ntfe_model.specs.Lists.{IsListing, IsBefore2}
use Rattle.ntfe_nums.specs.Vectors.{vector_sum, multiple}
use Rattle.ntfe_model.specs.Shapes.{Shape}
use Rattle.ntfe_model.specs.Charts.{Patch, patch_at, IsOf, place, reached}
use Rattle.ntfe_model.specs.Triangulations.{IsRotationOf, IsSide}
use Rattle.ntfe_model.specs.Words.{IsItem, HasItem}
use Rattle.ntfe_model.specs.declared.triangulation.Triangulation.{Triangulation}
use Rattle.ntfe_model.specs.declared.triangle.Triangle.{Triangle}
use Rattle.ntfe_model.specs.declared.nogood.Fold.{Fold}

-- one item number for each two-face, each of an item that exists
pub record IsChoice (g : Shape) (choice : List ℕ) : Type 0 where
  pub faces : length choice ≡ length g.faces
  pub items : (f : ℕ) → f < length g.faces → HasItem g f (slice_index choice f)

-- the height of the point with this number, counted from 1
abbrev pub height : List ℤ → ℕ → ℤ
height w k = slice_index_or w (k - 1) (pos 0)

-- p = a + s (b - a) + t (c - a) lies above the plane over a, b and c
pub record IsAbove (h : Patch) (w : List ℤ) (a b c p : ℕ) : Type 0 where
  pub s : ℤ
  pub t : ℤ
  pub lies : place h p ≡ reached (place h a) (place h b) (place h c) s t
  pub above : ((pos 1 -ℤ s -ℤ t) *ℤ height w a +ℤ s *ℤ height w b +ℤ t *ℤ height w c) <ℤ height w p

-- every other point of the face is above each triple of the item
abbrev pub IsRegularBy : Patch → List ℤ → Triangulation → Type 0
IsRegularBy h w x = (t : Triangle) → Contains x.triangles t → (p : ℕ) → IsOf h p → p ≢ t.a → p ≢ t.b → p ≢ t.c → IsAbove h w t.a t.b t.c p

-- the heights w, one for each point, extend the choice, whose items exist
pub record Extends (g : Shape) (w : List ℤ) (choice : List ℕ) : Type 0 where
  pub heights : length w ≡ length g.points
  pub lifts : (f : ℕ) → f < length g.faces → (x : Triangulation) → IsItem (patch_at g f) (slice_index choice f) x → IsRegularBy (patch_at g f) w x

-- the choices that are regular on every two-face by one list of heights
pub record IsExtendable (g : Shape) (choice : List ℕ) : Type 0 where
  pub items : IsChoice g choice
  pub heights : List ℤ
  pub extends : Extends g heights choice

-- ---- folds

-- (a, b) is an inner edge: a side, a < b, whose reverse is a side too
abbrev pub IsInnerEdge : List Triangle → ℕ → ℕ → Type 0
IsInnerEdge ts a b = (a < b) × IsSide ts a b × IsSide ts b a

-- c is the third point of a triple with the side (a, b), and d is that of one with the side (b, a)
abbrev pub AreOpposite : List Triangle → ℕ → ℕ → ℕ → ℕ → Type 0
AreOpposite ts a b c d = (t : Triangle) × (u : Triangle) × Contains ts t × Contains ts u × IsRotationOf t a b c × IsRotationOf u b a d

-- The fold w(c) + w(d) - alpha w(a) - beta w(b) of the inner edge a < b of the item: c < d are the third points of its two triples,
-- and c + d = alpha a + beta b with alpha + beta = 2.
pub record IsFoldOf (h : Patch) (x : Triangulation) (r : Fold) : Type 0 where
  pub edge : r.a < r.b
  pub ordered : r.c < r.d
  pub opposite : AreOpposite x.triangles r.a r.b r.c r.d ⊎ AreOpposite x.triangles r.a r.b r.d r.c
  pub balance : vector_sum (place h r.c) (place h r.d) ≡ vector_sum (multiple r.alpha (place h r.a)) (multiple r.beta (place h r.b))
  pub two : r.alpha +ℤ r.beta ≡ pos 2

-- the factors of a fold are small, as those of every item's folds are
abbrev pub IsSmallFold : Fold → Type 0
IsSmallFold r = (unsigned_abs r.alpha ≤ 4094) × (unsigned_abs r.beta ≤ 4094)

-- The folds of an item, in order of edges. Each inner edge of a fine triangulation has exactly one, which is to be proved.
abbrev pub AreFolds : Patch → Triangulation → List Fold → Type 0
AreFolds h x rs = IsListing (λ q r. IsBefore2 q.a q.b r.a r.b) (IsFoldOf h x) rs

-- the value of the fold at the heights
abbrev pub fold_value : List ℤ → Fold → ℤ
fold_value w r = height w r.c +ℤ height w r.d -ℤ r.alpha *ℤ height w r.a -ℤ r.beta *ℤ height w r.b
