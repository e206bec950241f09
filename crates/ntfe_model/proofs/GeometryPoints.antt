-- The points of a two-face of a geometry: their numbers are those of points of the geometry and rise, and their places are small and apart.
use Rattle.std.proofs.Common.{◌≡◌, ℕ, ◌+◌, ◌-◌, ◌<◌, ◌≤◌, ◌⊎◌, inl, inr, ◌==◌, ◌&&◌, Bool, true, false, cond, refl, sym, ap, subst, arith, List, [], ◌∷◌, map, length}
use Rattle.std.specs.Prelude.{All, AllPairs, Contains}
use Rattle.std.specs.List.{range_with_len}
use Rattle.std.proofs.lemmas.Bool.Decides.{nat_tests}
use Rattle.std.proofs.lemmas.List.Elements.{All-contains, All-filter, All-weaker, All-same}
use Rattle.std.proofs.lemmas.List.Kept.{AllPairs-filter}
use Rattle.ntfe_nums.specs.Vectors.{Vector, Precedes}
use Rattle.ntfe_model.specs.Pairs.{VertexLists, IsSmall, entry}
use Rattle.ntfe_model.specs.Points.{place_of_point, no_point, points_on_both, is_tight, ArePoints, IsFaceOf}
use Rattle.ntfe_model.specs.Shapes.{Shape, IsShape, face_at, no_face}
use Rattle.ntfe_model.specs.Charts.{patch_at, place, IsOf, spot_numbers}
use Rattle.ntfe_model.specs.declared.point.Point.{Point}
use Rattle.ntfe_model.proofs.Listings.{Contains-cases, Contains-none, listing_range}
use Rattle.ntfe_model.proofs.SmallVectors.{inside_small}
use Rattle.ntfe_model.proofs.Orders.{precedes_once}

-- two points have different places
pub places_apart : (p : VertexLists) (xs : List Point) → ArePoints p xs → (a b : ℕ) → 1 ≤ a → a < b → b ≤ length xs → place_of_point xs a ≡ place_of_point xs b → ⊥
places_apart p xs l a b h k m e =
    let q = l.ordered (a - 1) (b - 1) no_point (omega arith) (omega arith) in
    let P = λ (v : Vector). Precedes v (place_of_point xs b) in
    let r : Precedes (place_of_point xs b) (place_of_point xs b) = subst P e q in
    precedes_once (place_of_point xs b) (place_of_point xs b) r r

-- ---- a list of numbers as a patch

pub numbers_of : (ks : List ℕ) (f : ℕ → Vector) → spot_numbers (map (λ k. record { number = k; place = f k }) ks) ≡ ks
numbers_of [] f = refl
numbers_of (k ∷ ks) f = λ i. k ∷ numbers_of ks f i

pub place_of_number : (ks : List ℕ) (f : ℕ → Vector) (a : ℕ) → Contains ks a → place (map (λ k. record { number = k; place = f k }) ks) a ≡ f a
place_of_number [] f a c = Contains-none a c
place_of_number (k ∷ ks) f a c = by (Contains-cases a k ks c) (place_of_number ks f a) (k == a) refl
  where
    yes_same : (k == a) ≡ true → k ≡ a
    yes_same e = grind (arith, nat_tests)

    no_same : a ≡ k → (k == a) ≡ false → ⊥
    no_same q e = absurd (grind (arith, nat_tests))

    by : (a ≡ k) ⊎ Contains ks a → (Contains ks a → place (map (λ j. record { number = j; place = f j }) ks) a ≡ f a) → (b : Bool) → (k == a) ≡ b
        → cond b (f k) (place (map (λ j. record { number = j; place = f j }) ks) a) ≡ f a
    by s later true e = ap f (yes_same e)
    by (inl q) later false e = absurd (no_same q e)
    by (inr d) later false e = later d

-- ---- a two-face

module _ (g : Shape) (s : IsShape g) (f : ℕ) (within : f < length g.faces) where
  face_is : IsFaceOf g.pair g.points (face_at g f)
  face_is = s.faces.sound f no_face within

  pub numbers_within : All (λ m. (1 ≤ m) × (m ≤ length g.points)) (face_at g f).points
  numbers_within =
      let xs = g.points in
      let ks = face_at g f in
      let P = λ (m : ℕ). (1 ≤ m) × (m ≤ length xs) in
      All-same P ks.points (points_on_both g.pair xs ks.first ks.second) face_is.points
      (All-filter (λ m. is_tight (entry g.pair.dual ks.first) (place_of_point xs m) && is_tight (entry g.pair.dual ks.second) (place_of_point xs m)) P (range_with_len 1 (length xs))
      (All-weaker (λ m. (1 ≤ m) × (m < 1 + length xs)) P (λ m r. (r.0, (let t = r.1 in omega (arith, t)))) (range_with_len 1 (length xs)) (listing_range 1 (length xs)).sound))

  pub numbers_rise : AllPairs (λ a b. a < b) (face_at g f).points
  numbers_rise =
      let xs = g.points in
      let ks = face_at g f in
      let P = λ (ms : List ℕ). AllPairs (λ a b. a < b) ms in
      subst P (sym face_is.points)
      (AllPairs-filter (λ a b. a < b) (λ m. is_tight (entry g.pair.dual ks.first) (place_of_point xs m) && is_tight (entry g.pair.dual ks.second) (place_of_point xs m)) (range_with_len 1 (length xs)) (listing_range 1 (length xs)).ordered)

  module _ (a : ℕ) (o : IsOf (patch_at g f) a) where
    in_numbers : Contains (face_at g f).points a
    in_numbers = subst (λ (ks : List ℕ). Contains ks a) (numbers_of (face_at g f).points (place_of_point g.points)) o

    pub point_within : (1 ≤ a) × (a ≤ length g.points)
    point_within = All-contains (λ m. (1 ≤ m) × (m ≤ length g.points)) (face_at g f).points a numbers_within in_numbers

    pub point_place : place (patch_at g f) a ≡ place_of_point g.points a
    point_place = place_of_number (face_at g f).points (place_of_point g.points) a in_numbers

    pub geometry_place_small : IsSmall (place_of_point g.points a)
    geometry_place_small = (let k = point_within in inside_small g.pair (place_of_point g.points a) s.bounded.vertices.small (s.points.sound (a - 1) no_point (omega (arith, k.0, k.1))).inside)

    pub point_small : IsSmall (place (patch_at g f) a)
    point_small = (let P : Vector → Type 0 = IsSmall in subst P (sym point_place) geometry_place_small)
