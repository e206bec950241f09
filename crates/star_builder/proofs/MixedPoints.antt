-- A whole vector that is a combination of three points of a two-face, with weights that are not negative, is a point of the two-face.
--     mixed_point      its number
use Rattle.std.proofs.Common.{◌≡◌, ℕ, suc, ◌-◌, ◌<◌, ◌⊎◌, inl, inr, ⊎_elim, refl, sym, ap, ◌∙◌, arith, ℤ, pos, negsuc, ◌+ℤ◌, ◌-ℤ◌, ◌*ℤ◌, ◌<ℤ◌, ◌≤ℤ◌, List, [], ◌∷◌, length, get_or}
use Rattle.std.specs.Prelude.{Contains, Any}
use Rattle.std.specs.List.{range_with_len}
use Rattle.std.proofs.lemmas.Int.{ints}
use Rattle.std.proofs.lemmas.List.{get_or_default}
use Rattle.ntfe_nums.specs.Vectors.{Vector, dot}
use Rattle.ntfe_nums.proofs.Ring.{ring}
use Rattle.ntfe_nums.proofs.Ring.Expression.{var, num, plus, minus, times}
use Rattle.ntfe_model.specs.Lists.{IsNumberOf}
use Rattle.ntfe_model.specs.Pairs.{entry}
use Rattle.ntfe_model.specs.Reflexive.{IsTight}
use Rattle.ntfe_model.specs.Points.{IsInBox, IsPointOf, facets_through, is_tight, place_of_point, no_point}
use Rattle.ntfe_model.specs.Shapes.{Shape, IsShape, face_at}
use Rattle.ntfe_model.specs.Charts.{patch_at, IsOf}
use Rattle.ntfe_model.specs.declared.point.Point.{Point}
use Rattle.ntfe_model.proofs.GeometryPoints.{point_within}
use Rattle.ntfe_model.proofs.Listings.{Contains-filter, listing_range}
use Rattle.ntfe_model.proofs.PlaneNumbers.{cancel_other}
use Rattle.star_builder.proofs.FourWeights.{IsMixOf, dot_mix}
use Rattle.star_builder.proofs.FacetPoints.{int_eq_to}
use Rattle.star_builder.proofs.VertexPoints.{two_members}
use Rattle.star_builder.proofs.FacePoints.{face_is, face_point_tight, tight_face_point, number_first, number_second}
use Rattle.ntfe_nums.proofs.Signs.{negative_or, product_not_negative, positive_some}
use Rattle.star_builder.proofs.UsedPoints.{three_weights}

-- ---- numbers

-- a mean is at least one of its parts: else all weights were 0
mean_low : (k x y z t u w r o : ℤ) → pos 0 <ℤ k → pos 0 ≤ℤ x → pos 0 ≤ℤ y → pos 0 ≤ℤ z → k ≡ x +ℤ (y +ℤ z) → k *ℤ r ≡ x *ℤ t +ℤ (y *ℤ u +ℤ (z *ℤ w +ℤ pos 0 *ℤ o))
    → (t ≤ℤ r) ⊎ ((u ≤ℤ r) ⊎ (w ≤ℤ r))
mean_low k x y z t u w r o positive hx hy hz e m =
    ⊎_elim (λ l1. ⊎_elim (λ l2. ⊎_elim (λ l3. absurd (no l1 l2 l3)) (λ h. inr (inr (back w h))) (negative_or (r -ℤ w))) (λ h. inr (inl (back u h))) (negative_or (r -ℤ u))) (λ h. inl (back t h)) (negative_or (r -ℤ t))
  where
    back : (q : ℤ) → pos 0 ≤ℤ (r -ℤ q) → q ≤ℤ r
    back q h = omega (arith, ints, h)

    -- at least the weight
    at_least : (l q : ℤ) → pos 0 ≤ℤ l → (r -ℤ q) <ℤ pos 0 → pos 0 ≤ℤ (l *ℤ ((q -ℤ r) -ℤ pos 1))
    at_least l q h n = product_not_negative l ((q -ℤ r) -ℤ pos 1) h (omega (arith, ints, n))

    sum_is : x *ℤ ((t -ℤ r) -ℤ pos 1) +ℤ (y *ℤ ((u -ℤ r) -ℤ pos 1) +ℤ z *ℤ ((w -ℤ r) -ℤ pos 1)) ≡ pos 0 -ℤ k
    sum_is =
        ring (x ∷ y ∷ z ∷ t ∷ u ∷ w ∷ r ∷ o ∷ [])
        (plus (times (var 0) (minus (minus (var 3) (var 6)) (num (pos 1)))) (plus (times (var 1) (minus (minus (var 4) (var 6)) (num (pos 1)))) (times (var 2) (minus (minus (var 5) (var 6)) (num (pos 1))))))
        (minus (minus (plus (times (var 0) (var 3)) (plus (times (var 1) (var 4)) (plus (times (var 2) (var 5)) (times (num (pos 0)) (var 7))))) (times (plus (var 0) (plus (var 1) (var 2))) (var 6))) (plus (var 0) (plus (var 1) (var 2)))) refl
        ∙ (λ i. (sym m i -ℤ sym e i *ℤ r) -ℤ sym e i)
        ∙ ring (k ∷ r ∷ []) (minus (minus (times (var 0) (var 1)) (times (var 0) (var 1))) (var 0)) (minus (num (pos 0)) (var 0)) refl

    no : (r -ℤ t) <ℤ pos 0 → (r -ℤ u) <ℤ pos 0 → (r -ℤ w) <ℤ pos 0 → ⊥
    no l1 l2 l3 =
        clash (x *ℤ ((t -ℤ r) -ℤ pos 1)) (y *ℤ ((u -ℤ r) -ℤ pos 1)) (z *ℤ ((w -ℤ r) -ℤ pos 1)) k (at_least x t hx l1) (at_least y u hy l2) (at_least z w hz l3) sum_is positive
      where
        clash : (a b c k : ℤ) → pos 0 ≤ℤ a → pos 0 ≤ℤ b → pos 0 ≤ℤ c → a +ℤ (b +ℤ c) ≡ pos 0 -ℤ k → pos 0 <ℤ k → ⊥
        clash a b c k i j l f p = absurd (omega (arith, ints, i, j, l, f, p))

-- and at most one of them
mean_high : (k x y z t u w r o : ℤ) → pos 0 <ℤ k → pos 0 ≤ℤ x → pos 0 ≤ℤ y → pos 0 ≤ℤ z → k ≡ x +ℤ (y +ℤ z) → k *ℤ r ≡ x *ℤ t +ℤ (y *ℤ u +ℤ (z *ℤ w +ℤ pos 0 *ℤ o))
    → (r ≤ℤ t) ⊎ ((r ≤ℤ u) ⊎ (r ≤ℤ w))
mean_high k x y z t u w r o positive hx hy hz e m =
    ⊎_elim (λ h. inl (back t r h)) (λ q. inr (⊎_elim (λ h. inl (back u r h)) (λ h. inr (back w r h)) q))
    (mean_low k x y z (pos 0 -ℤ t) (pos 0 -ℤ u) (pos 0 -ℤ w) (pos 0 -ℤ r) o positive hx hy hz e
    (ring (k ∷ r ∷ []) (times (var 0) (minus (num (pos 0)) (var 1))) (minus (num (pos 0)) (times (var 0) (var 1))) refl ∙ ap (λ q. pos 0 -ℤ q) m
    ∙ ring (x ∷ y ∷ z ∷ t ∷ u ∷ w ∷ o ∷ [])
    (minus (num (pos 0)) (plus (times (var 0) (var 3)) (plus (times (var 1) (var 4)) (plus (times (var 2) (var 5)) (times (num (pos 0)) (var 6))))))
    (plus (times (var 0) (minus (num (pos 0)) (var 3))) (plus (times (var 1) (minus (num (pos 0)) (var 4))) (plus (times (var 2) (minus (num (pos 0)) (var 5))) (times (num (pos 0)) (var 6))))) refl))
  where
    back : (q r : ℤ) → (pos 0 -ℤ q) ≤ℤ (pos 0 -ℤ r) → r ≤ℤ q
    back q r h = omega (arith, ints, h)

-- a bound by some vertex passes on
any_low : (x : Vector → ℤ) (vs : List Vector) (t r : ℤ) → Any (λ u. x u ≤ℤ t) vs → t ≤ℤ r → Any (λ u. x u ≤ℤ r) vs
any_low x vs t r c l = (c.0, c.1, c.2, c.3, longer (x c.1) t r c.4 l)
  where
    longer : (y t r : ℤ) → y ≤ℤ t → t ≤ℤ r → y ≤ℤ r
    longer y t r k l = omega (arith, ints, k, l)

any_high : (x : Vector → ℤ) (vs : List Vector) (t r : ℤ) → Any (λ u. t ≤ℤ x u) vs → r ≤ℤ t → Any (λ u. r ≤ℤ x u) vs
any_high x vs t r c l = (c.0, c.1, c.2, c.3, longer (x c.1) t r c.4 l)
  where
    longer : (y t r : ℤ) → t ≤ℤ y → r ≤ℤ t → r ≤ℤ y
    longer y t r k l = omega (arith, ints, k, l)

-- ---- points of a two-face

module _ (g : Shape) (s : IsShape g) (f : ℕ) (within : f < length g.faces) (a b c : ℕ) (oa : IsOf (patch_at g f) a) (ob : IsOf (patch_at g f) b) (oc : IsOf (patch_at g f) c)
    (k l1 l2 l3 : ℤ) (positive : pos 0 <ℤ k) (h1 : pos 0 ≤ℤ l1) (h2 : pos 0 ≤ℤ l2) (h3 : pos 0 ≤ℤ l3) (size_is : k ≡ l1 +ℤ (l2 +ℤ l3)) (u d : Vector)
    (mix : IsMixOf (three_weights k l1 l2 l3) (place_of_point g.points a) (place_of_point g.points b) (place_of_point g.points c) d u) where
  abbrev spot : ℕ → Vector
  spot = place_of_point g.points

  point_of : (p : ℕ) → IsOf (patch_at g f) p → IsPointOf g.pair (get_or g.points (p - 1) no_point)
  point_of p o = (let n = point_within g s f within p o in s.points.sound (p - 1) no_point (let i = n.0 in let j = n.1 in omega (arith, i, j)))

  low_side : (x : Vector → ℤ) → k *ℤ x u ≡ l1 *ℤ x (spot a) +ℤ (l2 *ℤ x (spot b) +ℤ (l3 *ℤ x (spot c) +ℤ pos 0 *ℤ x d))
      → ((p : ℕ) → IsOf (patch_at g f) p → Any (λ v. x v ≤ℤ x (spot p)) g.pair.vertices) → Any (λ v. x v ≤ℤ x u) g.pair.vertices
  low_side x e low =
      ⊎_elim (λ l. any_low x g.pair.vertices (x (spot a)) (x u) (low a oa) l)
      (λ q. ⊎_elim (λ l. any_low x g.pair.vertices (x (spot b)) (x u) (low b ob) l) (λ l. any_low x g.pair.vertices (x (spot c)) (x u) (low c oc) l) q)
      (mean_low k l1 l2 l3 (x (spot a)) (x (spot b)) (x (spot c)) (x u) (x d) positive h1 h2 h3 size_is e)

  high_side : (x : Vector → ℤ) → k *ℤ x u ≡ l1 *ℤ x (spot a) +ℤ (l2 *ℤ x (spot b) +ℤ (l3 *ℤ x (spot c) +ℤ pos 0 *ℤ x d))
      → ((p : ℕ) → IsOf (patch_at g f) p → Any (λ v. x (spot p) ≤ℤ x v) g.pair.vertices) → Any (λ v. x u ≤ℤ x v) g.pair.vertices
  high_side x e high =
      ⊎_elim (λ l. any_high x g.pair.vertices (x (spot a)) (x u) (high a oa) l)
      (λ q. ⊎_elim (λ l. any_high x g.pair.vertices (x (spot b)) (x u) (high b ob) l) (λ l. any_high x g.pair.vertices (x (spot c)) (x u) (high c oc) l) q)
      (mean_high k l1 l2 l3 (x (spot a)) (x (spot b)) (x (spot c)) (x u) (x d) positive h1 h2 h3 size_is e)

  in_box : IsInBox g.pair.vertices u
  in_box = record {
    low1 = low_side (λ v. v.x1) (ap (λ v. v.x1) mix) (λ p o. (point_of p o).inside.box.low1);
    high1 = high_side (λ v. v.x1) (ap (λ v. v.x1) mix) (λ p o. (point_of p o).inside.box.high1);
    low2 = low_side (λ v. v.x2) (ap (λ v. v.x2) mix) (λ p o. (point_of p o).inside.box.low2);
    high2 = high_side (λ v. v.x2) (ap (λ v. v.x2) mix) (λ p o. (point_of p o).inside.box.high2);
    low3 = low_side (λ v. v.x3) (ap (λ v. v.x3) mix) (λ p o. (point_of p o).inside.box.low3);
    high3 = high_side (λ v. v.x3) (ap (λ v. v.x3) mix) (λ p o. (point_of p o).inside.box.high3);
    low4 = low_side (λ v. v.x4) (ap (λ v. v.x4) mix) (λ p o. (point_of p o).inside.box.low4);
    high4 = high_side (λ v. v.x4) (ap (λ v. v.x4) mix) (λ p o. (point_of p o).inside.box.high4);
  }

  -- the form is at least -1 on a combination
  form_low : (m : Vector) → negsuc 0 ≤ℤ dot m (spot a) → negsuc 0 ≤ℤ dot m (spot b) → negsuc 0 ≤ℤ dot m (spot c) → negsuc 0 ≤ℤ dot m u
  form_low m i j n =
      ⊎_elim (λ l. longer _ _ i l) (λ q. ⊎_elim (λ l. longer _ _ j l) (λ l. longer _ _ n l) q)
      (mean_low k l1 l2 l3 (dot m (spot a)) (dot m (spot b)) (dot m (spot c)) (dot m u) (dot m d) positive h1 h2 h3 size_is (dot_mix m (three_weights k l1 l2 l3) (spot a) (spot b) (spot c) d u mix))
    where
      longer : (y z : ℤ) → negsuc 0 ≤ℤ y → y ≤ℤ z → negsuc 0 ≤ℤ z
      longer y z i l = omega (arith, ints, i, l)

  tight_mix : (m : Vector) → IsTight m (spot a) → IsTight m (spot b) → IsTight m (spot c) → IsTight m u
  tight_mix m ta tb tc =
      cancel_other (dot m u) (negsuc 0) k (λ e. positive_some k positive e)
      (ring (k ∷ dot m u ∷ []) (times (var 1) (var 0)) (times (var 0) (var 1)) refl
      ∙ dot_mix m (three_weights k l1 l2 l3) (spot a) (spot b) (spot c) d u mix
      ∙ (λ i. l1 *ℤ ta i +ℤ (l2 *ℤ tb i +ℤ (l3 *ℤ tc i +ℤ pos 0 *ℤ dot m d)))
      ∙ sums l1 l2 l3 k (pos 0 *ℤ dot m d) (omega (arith, ints)) size_is)
    where
      sums : (x y z k o : ℤ) → o ≡ pos 0 → k ≡ x +ℤ (y +ℤ z) → x *ℤ negsuc 0 +ℤ (y *ℤ negsuc 0 +ℤ (z *ℤ negsuc 0 +ℤ o)) ≡ negsuc 0 *ℤ k
      sums x y z k o i e = omega (arith, ints, i, e)

  tight_first : IsTight (entry g.pair.dual (face_at g f).first) u
  tight_first = tight_mix (entry g.pair.dual (face_at g f).first) (face_point_tight g s f within a oa).0 (face_point_tight g s f within b ob).0 (face_point_tight g s f within c oc).0

  tight_second : IsTight (entry g.pair.dual (face_at g f).second) u
  tight_second = tight_mix (entry g.pair.dual (face_at g f).second) (face_point_tight g s f within a oa).1 (face_point_tight g s f within b ob).1 (face_point_tight g s f within c oc).1

  facet_through : (i : ℕ) → IsNumberOf g.pair.dual i → IsTight (entry g.pair.dual i) u → Contains (facets_through g.pair.dual u) i
  facet_through i n t =
      Contains-filter (λ j. is_tight (entry g.pair.dual j) u) (range_with_len 1 (length g.pair.dual)) i
      ((listing_range 1 (length g.pair.dual)).complete i (n.0, (let l = n.1 in omega (arith, l)))) (int_eq_to (dot (entry g.pair.dual i) u) (negsuc 0) t)

  abbrev point : Point
  point = record { place = u; facets = facets_through g.pair.dual u }

  is_point : IsPointOf g.pair point
  is_point = record {
    inside = record {
      box = in_box;
      hull = λ i m l. form_low (get_or g.pair.dual i m) ((point_of a oa).inside.hull i m l) ((point_of b ob).inside.hull i m l) ((point_of c oc).inside.hull i m l);
    };
    facets = refl;
    two = two_members (facets_through g.pair.dual u) (face_at g f).first (face_at g f).second
        (facet_through (face_at g f).first (number_first g s f within) tight_first) (facet_through (face_at g f).second (number_second g s f within) tight_second)
        (λ e. (let l = (face_is g s f within).meet.ordered.1 in absurd (omega (arith, l, e))));
  }

  pub mixed_point : (p : ℕ) × IsOf (patch_at g f) p × (place_of_point g.points p ≡ u)
  mixed_point =
      let h = s.points.complete point is_point in
      let same : suc h.0 - 1 ≡ h.0 = omega arith in
      let at : place_of_point g.points (suc h.0) ≡ u = ap (λ i. (get_or g.points i no_point).place) same ∙ ap (λ y. y.place) (get_or_default g.points h.0 no_point point h.1 ∙ h.2) in
      let number : IsNumberOf g.points (suc h.0) = (omega arith, h.1) in
      (suc h.0, tight_face_point g s f within (suc h.0) number (ap (dot (entry g.pair.dual (face_at g f).first)) at ∙ tight_first) (ap (dot (entry g.pair.dual (face_at g f).second)) at ∙ tight_second), at)
