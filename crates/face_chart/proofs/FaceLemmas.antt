-- The points of a two-face of a geometry: they are known and small, their numbers rise, and they lie apart.
use Rattle.std.proofs.Common.{◌≡◌, ℕ, zero, suc, ◌-◌, ◌<◌, ◌≤◌, ◌⊎◌, inl, inr, refl, sym, ap, ◌∙◌, subst, arith, List, [], ◌∷◌, map, length, get_or}
use Rattle.std.specs.Prelude.{All, AllPairs}
use Rattle.std.proofs.lemmas.List.{get_or_read, length-map}
use Rattle.std.proofs.lemmas.List.Elements.{All-weaker, All-map}
use Rattle.ntfe_nums.specs.Vectors.{Vector, origin}
use Rattle.ntfe_model.specs.Pairs.{VertexLists, IsSmall}
use Rattle.ntfe_model.specs.Points.{place_of_point, no_point, ArePoints, IsPointOf}
use Rattle.ntfe_model.specs.Shapes.{Shape, IsShape, face_at, no_face}
use Rattle.ntfe_model.specs.Charts.{Patch, patch_at, place, IsOf, spot_numbers}
use Rattle.ntfe_model.specs.declared.point.Point.{Point}
use Rattle.ntfe_model.specs.declared.face.Face.{Face}
use Rattle.face_chart.specs.Tables.{patch, place_at, AreKnown}
use Rattle.face_chart.proofs.PatchLemmas.{numbers_back}
use Rattle.ntfe_model.specs.Charts.{AreApart}
use Rattle.ntfe_model.proofs.SmallVectors.{inside_small}
use Rattle.ntfe_model.proofs.GeometryPoints.{places_apart, numbers_within, numbers_rise, point_within, point_place}

-- ---- the places

abbrev pub places : List Point → List Vector
places xs = map (λ x. x.place) xs

-- the place of a point, in the list of places
place_in : (xs : List Point) (k : ℕ) → place_at (places xs) k ≡ place_of_point xs k
place_in xs k = go xs (k - 1)
  where
    go : (ys : List Point) (i : ℕ) → get_or (places ys) i origin ≡ (get_or ys i no_point).place
    go [] i = refl
    go (y ∷ ys) zero = refl
    go (y ∷ ys) (suc i) = go ys i

pub patch_is : (xs : List Point) (ks : List ℕ) → patch ks (places xs) ≡ map (λ k. record { number = k; place = place_of_point xs k }) ks
patch_is xs [] = refl
patch_is xs (k ∷ ks) = λ i. record { number = k; place = place_in xs k i } ∷ patch_is xs ks i

pub places_small : (p : VertexLists) (xs : List Point) → All IsSmall p.vertices → ArePoints p xs → All IsSmall (places xs)
places_small p xs s l = All-map IsSmall (λ (x : Point). x.place) xs (All-weaker (IsPointOf p) (λ x. IsSmall x.place) (λ x k. inside_small p x.place s k.inside) xs l.sound)

-- ---- the numbers of a two-face

face_read : (g : Shape) (fs : List Face) (f : ℕ) (x : Face) → fs ≡ g.faces → f < length fs → x ≡ get_or fs f x → x ≡ face_at g f
face_read g fs f x e l q = get_or_read fs f x l q no_face ∙ ap (λ ys. get_or ys f no_face) e

module _ (g : Shape) (s : IsShape g) (f : ℕ) (within : f < length g.faces) where
  numbers_known : AreKnown (face_at g f).points (places g.points)
  numbers_known =
      let P = λ (m : ℕ). (1 ≤ m) × (m ≤ length (places g.points)) in
      All-weaker (λ m. (1 ≤ m) × (m ≤ length g.points)) P (λ m r. (r.0, (let t = r.1 in let e = length-map g.points (λ (x : Point). x.place) in omega arith))) (face_at g f).points (numbers_within g s f within)

  pub shape_small : All IsSmall (places g.points)
  shape_small = places_small g.pair g.points s.bounded.vertices.small s.points

  patch_at_is : patch (face_at g f).points (places g.points) ≡ patch_at g f
  patch_at_is = patch_is g.points (face_at g f).points

  -- what is made of the numbers of the two-face, as they are read, and of all places
  pub patch_read : (fs : List Face) (x : Face) (ns ks : List ℕ) (vs : List Vector) (t : Patch) → fs ≡ g.faces → x ≡ get_or fs f x → ns ≡ (get_or fs f x).points → ks ≡ ns → vs ≡ places g.points → t ≡ patch ks vs → t ≡ patch_at g f
  patch_read fs x ns ks vs t e q a b d p =
      let l : f < length fs = (let m = ap length e in omega (arith, m, within)) in
      p ∙ (λ i. patch ((b ∙ a ∙ ap (λ (y : Face). y.points) (sym q ∙ face_read g fs f x e l q)) i) (d i)) ∙ patch_at_is

  pub known_read : (fs : List Face) (x : Face) (ns ks : List ℕ) (vs : List Vector) → fs ≡ g.faces → x ≡ get_or fs f x → ns ≡ (get_or fs f x).points → ks ≡ ns → vs ≡ places g.points → AreKnown ks vs
  known_read fs x ns ks vs e q a b d =
      let l : f < length fs = (let m = ap length e in omega (arith, m, within)) in
      subst (λ (t : List ℕ × List Vector). AreKnown t.0 t.1) (λ i. (sym (b ∙ a ∙ ap (λ (y : Face). y.points) (sym q ∙ face_read g fs f x e l q)) i, sym d i)) numbers_known

  pub patch_rises : AllPairs (λ a b. a < b) (spot_numbers (patch_at g f))
  patch_rises =
      let P = λ (ms : List ℕ). AllPairs (λ a b. a < b) ms in
      subst P (sym (numbers_back (places g.points) (face_at g f).points) ∙ ap spot_numbers patch_at_is) (numbers_rise g s f within)

  -- the points of a two-face lie apart
  pub shape_apart : AreApart (patch_at g f)
  shape_apart a b i j e =
      by (three a b)
    where
      ks : List ℕ
      ks = (face_at g f).points

      range : (c : ℕ) → IsOf (patch_at g f) c → (1 ≤ c) × (c ≤ length g.points)
      range c o = point_within g s f within c o

      lies : (c : ℕ) → IsOf (patch_at g f) c → place_of_point g.points c ≡ place (patch_at g f) c
      lies c o = sym (point_place g s f within c o)

      same : place_of_point g.points a ≡ place_of_point g.points b
      same = lies a i ∙ e ∙ sym (lies b j)

      three : (c d : ℕ) → (c < d) ⊎ ((c ≡ d) ⊎ (d < c))
      three c d = grind arith

      by : (a < b) ⊎ ((a ≡ b) ⊎ (b < a)) → a ≡ b
      by (inl q) = absurd (places_apart g.pair g.points s.points a b (range a i).0 q (range b j).1 same)
      by (inr (inl q)) = q
      by (inr (inr q)) = absurd (places_apart g.pair g.points s.points b a (range b j).0 q (range a i).1 (sym same))
