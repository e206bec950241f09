-- Star triangulations by heights with ties broken along an order of pushing, and what they leave on two-faces.
use Rattle.std.specs.Prelude.{◌≡◌, ◌≢◌, ℕ, ◌+◌, ◌*◌, ◌^◌, ◌<◌, ◌==◌, ◌⊎◌, ◌↔◌, max, cond, ℤ, pos, negsuc, ◌+ℤ◌, ◌-ℤ◌, ◌*ℤ◌, neg_ℤ, ◌<ℤ◌, unsigned_abs, List, [], ◌∷◌, map, reverse, length, slice_index, Contains, IsPermutation}
use Rattle.std.specs.List.{range_with_len}
use Rattle.ntfe_model.specs.Lists.{IsListing, IsBelow, IsNumberOf}
use Rattle.ntfe_nums.specs.Vectors.{Vector, vector_sum, multiple, det4, AreLinearlyIndependent}
use Rattle.ntfe_model.specs.Pairs.{entry}
use Rattle.ntfe_model.specs.Reflexive.{IsTight}
use Rattle.ntfe_model.specs.Points.{place_of_point}
use Rattle.ntfe_model.specs.Shapes.{Shape}
use Rattle.ntfe_model.specs.Charts.{Patch, IsOf, turn, patch_at}
use Rattle.ntfe_model.specs.Triangulations.{IsRotationOf}
use Rattle.ntfe_model.specs.Words.{IsItem}
use Rattle.ntfe_model.specs.Choices.{height, IsChoice}
use Rattle.ntfe_model.specs.declared.point.Point.{Point}
use Rattle.ntfe_model.specs.declared.triangle.Triangle.{Triangle}
use Rattle.ntfe_model.specs.declared.triangulation.Triangulation.{Triangulation}
use Rattle.ntfe_model.specs.declared.nogood.Push.{Push}
use Rattle.ntfe_model.specs.declared.nogood.Push.TheVariants.{Up, Down}

-- the first number that is not 0 is positive
abbrev pub IsFirstPositive : List ℤ → Type 0
IsFirstPositive [] = ⊥
IsFirstPositive (z ∷ zs) = (pos 0 <ℤ z) ⊎ ((z ≡ pos 0) × IsFirstPositive zs)

-- the order of pushing over n points
abbrev pub order_of : Push → ℕ → List ℕ
order_of Up n = range_with_len 1 n
order_of Down n = reverse (range_with_len 1 n)

-- the list has the numbers of all n points, each once
abbrev pub IsOrder : ℕ → List ℕ → Type 0
IsOrder n order = IsPermutation (range_with_len 1 n) order

-- the points of the list with these numbers: size times p is l1 a + l2 b + l3 c + l4 d, where size is that of the determinant of a, b, c, d
pub record IsCombination (xs : List Point) (a b c d p : ℕ) (size l1 l2 l3 l4 : ℤ) : Type 0 where
  pub size_is : size ≡ pos (unsigned_abs (det4 (place_of_point xs a) (place_of_point xs b) (place_of_point xs c) (place_of_point xs d)))
  pub mix : multiple size (place_of_point xs p) ≡ vector_sum (multiple l1 (place_of_point xs a)) (vector_sum (multiple l2 (place_of_point xs b)) (vector_sum (multiple l3 (place_of_point xs c)) (multiple l4 (place_of_point xs d))))

-- the coefficient of w(k) in size w(p) - l1 w(a) - l2 w(b) - l3 w(c) - l4 w(d), where each of a, b, c, d comes with its multiplier
abbrev pub push_coefficient : ℤ → ℕ × ℤ → ℕ × ℤ → ℕ × ℤ → ℕ × ℤ → ℕ → ℕ → ℤ
push_coefficient size a b c d p k =
    cond (k == p) size
    (cond (k == a.0) (neg_ℤ a.1) (cond (k == b.0) (neg_ℤ b.1) (cond (k == c.0) (neg_ℤ c.1) (cond (k == d.0) (neg_ℤ d.1) (pos 0)))))

-- p is lexicographically above the points a, b, c, d: the heights decide, and where they don't, the order of pushing does
pub record IsLexAbove (xs : List Point) (w : List ℤ) (order : List ℕ) (a b c d p : ℕ) : Type 0 where
  pub l1 : ℤ
  pub l2 : ℤ
  pub l3 : ℤ
  pub l4 : ℤ
  pub size : ℤ
  pub combination : IsCombination xs a b c d p size l1 l2 l3 l4
  pub above : IsFirstPositive
      ((size *ℤ height w p -ℤ (l1 *ℤ height w a +ℤ l2 *ℤ height w b +ℤ l3 *ℤ height w c +ℤ l4 *ℤ height w d))
      ∷ map (push_coefficient size (a, l1) (b, l2) (c, l3) (d, l4) p) order)

-- the four points of xs, by rising numbers, are a member of the star over xs, where ms has the facets:
-- they are independent points of one facet, and every other point of this facet is above them
pub record IsMember (ms : List Vector) (xs : List Point) (w : List ℤ) (order : List ℕ) (members : List ℕ) : Type 0 where
  pub a : ℕ
  pub b : ℕ
  pub c : ℕ
  pub d : ℕ
  pub is : members ≡ a ∷ b ∷ c ∷ d ∷ []
  pub ordered : IsNumberOf xs a × (a < b) × (b < c) × (c < d) × IsNumberOf xs d
  pub facet : ℕ
  pub number : IsNumberOf ms facet
  pub tight : (k : ℕ) → Contains members k → IsTight (entry ms facet) (place_of_point xs k)
  pub independent : AreLinearlyIndependent (place_of_point xs a) (place_of_point xs b) (place_of_point xs c) (place_of_point xs d)
  pub others : (p : ℕ) → IsNumberOf xs p → ¬ (Contains members p) → IsTight (entry ms facet) (place_of_point xs p) → IsLexAbove xs w order a b c d p

-- the star of the heights and the order: its sets of four points, in lexicographic order
abbrev pub IsStar : List Vector → List Point → List ℤ → List ℕ → List (List ℕ) → Type 0
IsStar ms xs w order star = IsListing IsBelow (IsMember ms xs w order) star

-- ---- the ridges of a member: three of its four points

-- all these points lie in the facet
abbrev pub AreIn : List Vector → List Point → ℕ → List ℕ → Type 0
AreIn ms xs facet ks = IsNumberOf ms facet × ((k : ℕ) → Contains ks k → IsTight (entry ms facet) (place_of_point xs k))

-- the set has all points of the member, but for one that it may lack
abbrev pub HasRidge : List ℕ → ℕ → List ℕ → Type 0
HasRidge members without s = (k : ℕ) → Contains members k → k ≢ without → Contains s k

-- the ridge lies in two facets
pub record IsOuterRidge (ms : List Vector) (xs : List Point) (members : List ℕ) (without : ℕ) : Type 0 where
  pub ridge : List ℕ
  pub has : HasRidge members without ridge
  pub first : ℕ
  pub second : ℕ
  pub differ : first < second
  pub both : AreIn ms xs first ridge × AreIn ms xs second ridge

-- s is the one other member of the facet that has the ridge, and its fourth point lies on the other side of the ridge
pub record IsBeyond (ms : List Vector) (xs : List Point) (w : List ℤ) (order : List ℕ) (members : List ℕ) (without : ℕ) (s : List ℕ) : Type 0 where
  pub is : IsMember ms xs w order s
  pub facet : ℕ
  pub both : AreIn ms xs facet members × AreIn ms xs facet s
  pub shares : HasRidge members without s
  pub only : (t : List ℕ) → IsMember ms xs w order t → AreIn ms xs facet t → HasRidge members without t → (t ≡ members) ⊎ (t ≡ s)
  pub a : ℕ
  pub b : ℕ
  pub c : ℕ
  pub ridge : (a < b) × (b < c) × (a ≢ without) × (b ≢ without) × (c ≢ without) × Contains members a × Contains members b × Contains members c
  pub fourth : ℕ
  pub new : Contains s fourth × ¬ (Contains members fourth)
  pub opposite : (det4 (place_of_point xs a) (place_of_point xs b) (place_of_point xs c) (place_of_point xs without)
      *ℤ det4 (place_of_point xs a) (place_of_point xs b) (place_of_point xs c) (place_of_point xs fourth)) <ℤ pos 0

-- a fine regular star triangulation over the points xs: a star in which every point occurs
pub record IsFrst (ms : List Vector) (xs : List Point) (star : List (List ℕ)) : Type 0 where
  pub heights : List ℤ
  pub order : List ℕ
  pub heights_of : length heights ≡ length xs
  pub order_of_all : IsOrder (length xs) order
  pub is : IsStar ms xs heights order star
  pub uses_all : (k : ℕ) → IsNumberOf xs k → (s : List ℕ) × Contains star s × Contains s k

-- a, b and c are the corners of a triple of the list
abbrev pub AreCorners : List Triangle → ℕ → ℕ → ℕ → Type 0
AreCorners ts a b c = (t : Triangle) × Contains ts t × (IsRotationOf t a b c ⊎ IsRotationOf t a c b)

-- three points of one member of the star
abbrev pub AreTogether : List (List ℕ) → ℕ → ℕ → ℕ → Type 0
AreTogether star a b c = (s : List ℕ) × Contains star s × Contains s a × Contains s b × Contains s c

-- a triple of the face's points that stands in some member of the star, turned to the left, with the least number first
pub record IsLeft (h : Patch) (star : List (List ℕ)) (t : Triangle) : Type 0 where
  pub points : IsOf h t.a × IsOf h t.b × IsOf h t.c
  pub together : AreTogether star t.a t.b t.c
  pub turned : turn h t.a t.b t.c ≡ pos 1
  pub least : (t.a < t.b) × (t.a < t.c)

-- all such triples, in lexicographic order
abbrev pub IsRestriction : Patch → List (List ℕ) → List Triangle → Type 0
IsRestriction h star ts = IsListing (λ t u. IsBelow (t.a ∷ t.b ∷ t.c ∷ []) (u.a ∷ u.b ∷ u.c ∷ [])) (IsLeft h star) ts

-- the triples of the face's points that stand in some member of the star are exactly those of the item
abbrev pub Leaves : Patch → List (List ℕ) → Triangulation → Type 0
Leaves h star x =
    (a b c : ℕ) → a < b → b < c → IsOf h a → IsOf h b → IsOf h c → AreTogether star a b c ↔ AreCorners x.triangles a b c

-- what the star leaves on each two-face is the chosen item. The items must exist, else this says nothing
abbrev pub Induces : Shape → List (List ℕ) → List ℕ → Type 0
Induces g star choice = (f : ℕ) → f < length g.faces → (x : Triangulation) → IsItem (patch_at g f) (slice_index choice f) x → Leaves (patch_at g f) star x

-- the choices that some fine regular star triangulation over the points induces
pub record IsInduced (g : Shape) (choice : List ℕ) : Type 0 where
  pub items : IsChoice g choice
  pub star : List (List ℕ)
  pub frst : IsFrst g.pair.dual g.points star
  pub induces : Induces g star choice

-- ---- a height for the origin

-- the greatest size of a height, 0 for none
abbrev pub greatest_size : List ℤ → ℕ
greatest_size [] = 0
greatest_size (z ∷ zs) = max (unsigned_abs z) (greatest_size zs)

-- -(1 + W (2 ^ 47 + 1)), where W is the greatest size
abbrev pub origin_height : List ℤ → ℤ
origin_height w = negsuc (greatest_size w * (2 ^ 47 + 1))

-- the plane over the origin, with the height h, and over a, b, c, d is strictly below p
pub record IsAboveOriginPlane (xs : List Point) (w : List ℤ) (h : ℤ) (a b c d p : ℕ) : Type 0 where
  pub l1 : ℤ
  pub l2 : ℤ
  pub l3 : ℤ
  pub l4 : ℤ
  pub size : ℤ
  pub combination : IsCombination xs a b c d p size l1 l2 l3 l4
  pub above : (l1 *ℤ height w a +ℤ l2 *ℤ height w b +ℤ l3 *ℤ height w c +ℤ l4 *ℤ height w d +ℤ (size -ℤ (l1 +ℤ l2 +ℤ l3 +ℤ l4)) *ℤ h) <ℤ (size *ℤ height w p)
