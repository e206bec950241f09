-- The points and the two-faces of a reflexive polytope.
use Rattle.std.specs.Prelude.{◌≡◌, ◌≢◌, ℕ, ◌-◌, ◌<◌, ◌≤◌, ◌&&◌, Bool, ℤ, pos, negsuc, ◌+ℤ◌, ◌-ℤ◌, ◌*ℤ◌, ◌≤ℤ◌, List, length, slice_index_or, All, Any, filter, Contains}
use Rattle.std.specs.List.{range_with_len}
use Rattle.std.specs.Ordering.{int_eq}
use Rattle.ntfe_model.specs.Lists.{IsListing, IsBefore2}
use Rattle.ntfe_nums.specs.Vectors.{Vector, origin, dot, Precedes, coordinate, area}
use Rattle.ntfe_model.specs.Pairs.{VertexLists, entry}
use Rattle.ntfe_model.specs.Reflexive.{IsTight}
use Rattle.ntfe_model.specs.declared.point.Point.{Point}
use Rattle.ntfe_model.specs.declared.face.Face.{Face}

-- x lies in the vertices' bounding box: each of its coordinates is at least that of some vertex, and at most that of some vertex
pub record IsInBox (vs : List Vector) (x : Vector) : Type 0 where
  pub low1 : Any (λ v. v.x1 ≤ℤ x.x1) vs
  pub high1 : Any (λ v. x.x1 ≤ℤ v.x1) vs
  pub low2 : Any (λ v. v.x2 ≤ℤ x.x2) vs
  pub high2 : Any (λ v. x.x2 ≤ℤ v.x2) vs
  pub low3 : Any (λ v. v.x3 ≤ℤ x.x3) vs
  pub high3 : Any (λ v. x.x3 ≤ℤ v.x3) vs
  pub low4 : Any (λ v. v.x4 ≤ℤ x.x4) vs
  pub high4 : Any (λ v. x.x4 ≤ℤ v.x4) vs

-- the side of the vertices' box in the coordinate with this number: the greatest minus the least, plus 1
pub record IsBoxSide (vs : List Vector) (k : ℕ) (side : ℤ) : Type 0 where
  pub low : ℤ
  pub high : ℤ
  pub least : All (λ v. low ≤ℤ coordinate k v) vs
  pub greatest : All (λ v. coordinate k v ≤ℤ high) vs
  pub lowest : Any (λ v. coordinate k v ≡ low) vs
  pub highest : Any (λ v. coordinate k v ≡ high) vs
  pub side_is : side ≡ high -ℤ low +ℤ pos 1

-- the number of the box's columns: the product of its first three sides
abbrev pub AreColumns : List Vector → ℤ → Type 0
AreColumns vs columns =
    (a : ℤ) × (b : ℤ) × (c : ℤ) × IsBoxSide vs 1 a × IsBoxSide vs 2 b × IsBoxSide vs 3 c × (columns ≡ a *ℤ b *ℤ c)

-- the point is in the polytope
pub record IsInside (p : VertexLists) (x : Vector) : Type 0 where
  pub box : IsInBox p.vertices x
  pub hull : All (λ m. negsuc 0 ≤ℤ dot m x) p.dual

-- whether m is tight on x
abbrev pub is_tight : Vector → Vector → Bool
is_tight m x = int_eq (dot m x) (negsuc 0)

-- the numbers of the facets through x, rising
abbrev pub facets_through : List Vector → Vector → List ℕ
facets_through ms x = filter (λ i. is_tight (entry ms i) x) (range_with_len 1 (length ms))

-- a whole point of the polytope that lies on at least two facets, with their numbers. So the origin and the points interior to a facet are none.
pub record IsPointOf (p : VertexLists) (x : Point) : Type 0 where
  pub inside : IsInside p x.place
  pub facets : x.facets ≡ facets_through p.dual x.place
  pub two : 2 ≤ length x.facets

-- the list of the points, in order of coordinates
abbrev pub ArePoints : VertexLists → List Point → Type 0
ArePoints p xs = IsListing (λ x y. Precedes x.place y.place) (IsPointOf p) xs

-- stands for a point whose number is out of range
abbrev pub no_point : Point
no_point = record { place = origin; facets = List.[] }

-- the place of the point with this number, counted from 1
abbrev pub place_of_point : List Point → ℕ → Vector
place_of_point xs k = (slice_index_or xs (k - 1) no_point).place

-- a, b, c are affinely independent: in some two coordinates their area is not 0
abbrev pub SpanPlane : Vector → Vector → Vector → Type 0
SpanPlane a b c = (q : ℕ × ℕ) × (1 ≤ q.0) × (q.0 < q.1) × (q.1 ≤ 4) × (area q a b c ≢ pos 0)

-- facets i < j meet in a two-face: three affinely independent vertices are tight on both
pub record MeetInTwoFace (p : VertexLists) (i j : ℕ) : Type 0 where
  pub ordered : (1 ≤ i) × (i < j) × (j ≤ length p.dual)
  pub a : Vector
  pub b : Vector
  pub c : Vector
  pub vertices : Contains p.vertices a × Contains p.vertices b × Contains p.vertices c
  pub first : IsTight (entry p.dual i) a × IsTight (entry p.dual i) b × IsTight (entry p.dual i) c
  pub second : IsTight (entry p.dual j) a × IsTight (entry p.dual j) b × IsTight (entry p.dual j) c
  pub span : SpanPlane a b c

-- the numbers of the points on both facets, rising
abbrev pub points_on_both : VertexLists → List Point → ℕ → ℕ → List ℕ
points_on_both p xs i j =
    filter (λ k. is_tight (entry p.dual i) (place_of_point xs k) && is_tight (entry p.dual j) (place_of_point xs k)) (range_with_len 1 (length xs))

-- a two-face: the numbers of its two facets, and all points on both
pub record IsFaceOf (p : VertexLists) (xs : List Point) (f : Face) : Type 0 where
  pub meet : MeetInTwoFace p f.first f.second
  pub points : f.points ≡ points_on_both p xs f.first f.second

-- the list of the two-faces, in order of their pairs of facets
abbrev pub AreFaces : VertexLists → List Point → List Face → Type 0
AreFaces p xs fs = IsListing (λ f g. IsBefore2 f.first f.second g.first g.second) (IsFaceOf p xs) fs
