-- Three points of a two-face that aren't on a line: every point of the two-face is a combination of them, and heights above them in the plane are heights above them in a facet.
--     area_wedge      areas in the axes of the two-face are wedges
--     plane_mix      the combination
--     outside_apart      a point outside the two-face is independent of the three
--     line_of_all      independent points are not on a line, unless all points of the two-face are
--     plane_rise      the rise above the three and a fourth point, as a lift in the plane
use Rattle.std.proofs.Common.{◌≡◌, ◌≢◌, ℕ, zero, suc, ◌+◌, ◌-◌, ◌<◌, ⊎_elim, refl, sym, ap, ◌∙◌, arith, ℤ, pos, negsuc, ◌+ℤ◌, ◌-ℤ◌, ◌*ℤ◌, neg_ℤ, [], ◌∷◌, length}
use Rattle.std.specs.Prelude.{slice_index_or}
use Rattle.std.proofs.lemmas.Int.{ints}
use Rattle.ntfe_nums.specs.Vectors.{Vector, origin, numbers, coordinate, area, cofactors, det4, dot}
use Rattle.ntfe_nums.proofs.Ring.{ring, zero_product, product_neg}
use Rattle.ntfe_nums.proofs.Ring.Expression.{var, num, plus, minus, times}
use Rattle.ntfe_nums.proofs.DetLemmas.{det4-cofactors}
use Rattle.ntfe_nums.proofs.Signs.{zero_out, positive_some}
use Rattle.ntfe_nums.proofs.Exchanges.{swap_last, second_last, first_last}
use Rattle.ntfe_model.specs.Pairs.{entry}
use Rattle.ntfe_model.specs.Reflexive.{IsTightOnFour, at}
use Rattle.ntfe_model.specs.Points.{place_of_point}
use Rattle.ntfe_model.specs.Shapes.{Shape, IsShape, face_at}
use Rattle.ntfe_model.specs.Charts.{patch_at, axes, IsOf}
use Rattle.ntfe_model.proofs.GeometryPoints.{point_place}
use Rattle.ntfe_model.proofs.PlaneNumbers.{cancel_other, zero_factor}
use Rattle.ntfe_model.proofs.UnitTriples.{area_of}
use Rattle.star_builder.proofs.FourWeights.{Weights, IsMixOf, cramer, cramer_weights, dot_mix, weight1, weight2, weight3, weight4}
use Rattle.star_builder.proofs.Normals.{form_fixed}
use Rattle.star_builder.proofs.FacetPoints.{not_always_zero, entry_in}
use Rattle.star_builder.proofs.FacePoints.{IsOutside, some_outside, distance, outside_far, face_point_tight, number_first}
use Rattle.star_builder.proofs.Planar.{wedge, wedge_turn, lift}
use Rattle.star_builder.proofs.Rises.{rise, volume}

-- ---- coordinates of combinations

zeros : (k l1 l2 l3 l4 : ℤ) → k *ℤ pos 0 ≡ l1 *ℤ pos 0 +ℤ (l2 *ℤ pos 0 +ℤ (l3 *ℤ pos 0 +ℤ l4 *ℤ pos 0))
zeros k l1 l2 l3 l4 = omega (arith, ints)

pub coordinate_mix : (i : ℕ) (m : Weights) (a b c d p : Vector) → IsMixOf m a b c d p
    → m.k *ℤ coordinate i p ≡ m.l1 *ℤ coordinate i a +ℤ (m.l2 *ℤ coordinate i b +ℤ (m.l3 *ℤ coordinate i c +ℤ m.l4 *ℤ coordinate i d))
coordinate_mix i m a b c d p e = at_place (i - 1)
  where
    at_place : (j : ℕ) → m.k *ℤ slice_index_or (numbers p) j (pos 0)
        ≡ m.l1 *ℤ slice_index_or (numbers a) j (pos 0) +ℤ (m.l2 *ℤ slice_index_or (numbers b) j (pos 0) +ℤ (m.l3 *ℤ slice_index_or (numbers c) j (pos 0) +ℤ m.l4 *ℤ slice_index_or (numbers d) j (pos 0)))
    at_place zero = ap (λ v. v.x1) e
    at_place (suc zero) = ap (λ v. v.x2) e
    at_place (suc (suc zero)) = ap (λ v. v.x3) e
    at_place (suc (suc (suc zero))) = ap (λ v. v.x4) e
    at_place (suc (suc (suc (suc j)))) = zeros m.k m.l1 m.l2 m.l3 m.l4

-- a wedge with a combination of three: the weight of the third, times their wedge
pub wedge_weight : (k l1 l2 l3 ax ay bx by cx cy px py : ℤ) → k ≡ l1 +ℤ (l2 +ℤ l3) → k *ℤ px ≡ l1 *ℤ ax +ℤ (l2 *ℤ bx +ℤ l3 *ℤ cx) → k *ℤ py ≡ l1 *ℤ ay +ℤ (l2 *ℤ by +ℤ l3 *ℤ cy)
    → k *ℤ ((cx -ℤ bx) *ℤ (py -ℤ by) -ℤ (cy -ℤ by) *ℤ (px -ℤ bx)) ≡ l1 *ℤ ((bx -ℤ ax) *ℤ (cy -ℤ ay) -ℤ (by -ℤ ay) *ℤ (cx -ℤ ax))
wedge_weight k l1 l2 l3 ax ay bx by cx cy px py e ex ey =
    ring (k ∷ bx ∷ by ∷ cx ∷ cy ∷ px ∷ py ∷ [])
    (times (var 0) (minus (times (minus (var 3) (var 1)) (minus (var 6) (var 2))) (times (minus (var 4) (var 2)) (minus (var 5) (var 1)))))
    (minus (times (minus (var 3) (var 1)) (minus (times (var 0) (var 6)) (times (var 0) (var 2)))) (times (minus (var 4) (var 2)) (minus (times (var 0) (var 5)) (times (var 0) (var 1))))) refl
    ∙ (λ i. (cx -ℤ bx) *ℤ (ey i -ℤ e i *ℤ by) -ℤ (cy -ℤ by) *ℤ (ex i -ℤ e i *ℤ bx))
    ∙ ring (l1 ∷ l2 ∷ l3 ∷ ax ∷ ay ∷ bx ∷ by ∷ cx ∷ cy ∷ [])
    (let sum3 = λ (i : ℕ). plus (times (var 0) (var i)) (plus (times (var 1) (var (i + 2))) (times (var 2) (var (i + 4)))) in
    let all = plus (var 0) (plus (var 1) (var 2)) in
    minus (times (minus (var 7) (var 5)) (minus (sum3 4) (times all (var 6)))) (times (minus (var 8) (var 6)) (minus (sum3 3) (times all (var 5)))))
    (times (var 0) (minus (times (minus (var 5) (var 3)) (minus (var 8) (var 4))) (times (minus (var 6) (var 4)) (minus (var 7) (var 3))))) refl

pub rotated : (k x y z : ℤ) → k ≡ x +ℤ (y +ℤ z) → k ≡ y +ℤ (z +ℤ x)
rotated k x y z e = omega (arith, ints, e)

module _ (g : Shape) (s : IsShape g) (f : ℕ) (within : f < length g.faces) (v : ℕ → ℤ) where
  abbrev spot : ℕ → Vector
  spot = place_of_point g.points

  -- the coordinates of the points in the axes of the face
  abbrev pub first_of : ℕ → ℤ
  first_of k = coordinate (axes (patch_at g f)).0 (place_of_point g.points k)

  abbrev pub second_of : ℕ → ℤ
  second_of k = coordinate (axes (patch_at g f)).1 (place_of_point g.points k)

  abbrev On : ℕ → Type 0
  On = IsOf (patch_at g f)

  abbrev wedged : ℕ → ℕ → ℕ → ℤ
  wedged = wedge first_of second_of v

  abbrev first : Vector
  first = entry g.pair.dual (face_at g f).first

  pub area_wedge : (a b c : ℕ) → IsOf (patch_at g f) a → IsOf (patch_at g f) b → IsOf (patch_at g f) c → area_of (patch_at g f) a b c ≡ wedge first_of second_of v a b c
  area_wedge a b c oa ob oc = λ i. area (axes (patch_at g f)) (point_place g s f within a oa i) (point_place g s f within b ob i) (point_place g s f within c oc i)

  abbrev pub plane_weights : ℕ → ℕ → ℕ → ℕ → Weights
  plane_weights a b c p = record { k = wedged a b c; l1 = wedged b c p; l2 = wedged c a p; l3 = wedged a b p; l4 = pos 0 }

  pub wedge_sum : (a b c p : ℕ) → wedge first_of second_of v a b c ≡ wedge first_of second_of v b c p +ℤ (wedge first_of second_of v c a p +ℤ wedge first_of second_of v a b p)
  wedge_sum a b c p =
      let w = λ (i j k : ℕ). minus (times (minus (var j) (var i)) (minus (var (suc k)) (var (suc i)))) (times (minus (var (suc j)) (var (suc i))) (minus (var k) (var i))) in
      ring (first_of a ∷ second_of a ∷ first_of b ∷ second_of b ∷ first_of c ∷ second_of c ∷ first_of p ∷ second_of p ∷ []) (w 0 2 4) (plus (w 2 4 6) (plus (w 4 0 6) (w 0 2 6))) refl

  module _ (a b c : ℕ) (oa : On a) (ob : On b) (oc : On c) where
    -- the weight of d in a combination is as its distance from the face
    distance_weight : (m : Weights) (d p : Vector) → IsMixOf m (spot a) (spot b) (spot c) d p → m.k *ℤ distance g s f within p ≡ m.l4 *ℤ distance g s f within d
    distance_weight m d p e =
        let ta = face_point_tight g s f within a oa in
        let tb = face_point_tight g s f within b ob in
        let tc = face_point_tight g s f within c oc in
        let second = entry g.pair.dual (face_at g f).second in
        by m.k m.l1 m.l2 m.l3 m.l4 (dot second p) (dot first p) (dot second d) (dot first d)
        (dot_mix second m (spot a) (spot b) (spot c) d p e ∙ (λ i. m.l1 *ℤ ta.1 i +ℤ (m.l2 *ℤ tb.1 i +ℤ (m.l3 *ℤ tc.1 i +ℤ m.l4 *ℤ dot second d))))
        (dot_mix first m (spot a) (spot b) (spot c) d p e ∙ (λ i. m.l1 *ℤ ta.0 i +ℤ (m.l2 *ℤ tb.0 i +ℤ (m.l3 *ℤ tc.0 i +ℤ m.l4 *ℤ dot first d))))
      where
        by : (k l1 l2 l3 l4 x y u v : ℤ) → k *ℤ x ≡ l1 *ℤ negsuc 0 +ℤ (l2 *ℤ negsuc 0 +ℤ (l3 *ℤ negsuc 0 +ℤ l4 *ℤ u))
            → k *ℤ y ≡ l1 *ℤ negsuc 0 +ℤ (l2 *ℤ negsuc 0 +ℤ (l3 *ℤ negsuc 0 +ℤ l4 *ℤ v)) → k *ℤ (x -ℤ y) ≡ l4 *ℤ (u -ℤ v)
        by k l1 l2 l3 l4 x y u v i j =
            open_up k x y ∙ apart (k *ℤ x) (k *ℤ y) (l1 *ℤ negsuc 0) (l2 *ℤ negsuc 0) (l3 *ℤ negsuc 0) (l4 *ℤ u) (l4 *ℤ v) i j ∙ sym (open_up l4 u v)
          where
            open_up : (q r t : ℤ) → q *ℤ (r -ℤ t) ≡ q *ℤ r -ℤ q *ℤ t
            open_up q r t = ring (q ∷ r ∷ t ∷ []) (times (var 0) (minus (var 1) (var 2))) (minus (times (var 0) (var 1)) (times (var 0) (var 2))) refl

            apart : (q r n1 n2 n3 t w : ℤ) → q ≡ n1 +ℤ (n2 +ℤ (n3 +ℤ t)) → r ≡ n1 +ℤ (n2 +ℤ (n3 +ℤ w)) → q -ℤ r ≡ t -ℤ w
            apart q r n1 n2 n3 t w i j = omega (arith, ints, i, j)

    -- where a point outside is not independent of the three, nothing is
    all_dependent : (d : ℕ) → IsOutside g s f within d → volume spot v a b c d ≡ pos 0 → (p : Vector) → det4 (spot a) (spot b) (spot c) p ≡ pos 0
    all_dependent d o z p =
        det4-cofactors (spot a) (spot b) (spot c) p
        ∙ form_fixed (cofactors (spot a) (spot b) (spot c)) origin (at g.pair.vertices r.i) (at g.pair.vertices r.j) (at g.pair.vertices r.k) (at g.pair.vertices r.l) r.four.independent
        (same (at g.pair.vertices r.i)) (same (at g.pair.vertices r.j)) (same (at g.pair.vertices r.k)) (same (at g.pair.vertices r.l)) p
        ∙ nothing p
      where
        nothing : (u : Vector) → dot origin u ≡ pos 0
        nothing u = omega (arith, ints)

        r : IsTightOnFour first g.pair.vertices
        r = s.reflexive.facets first (entry_in g.pair.dual (face_at g f).first (number_first g s f within))

        left_out : (k y l : ℤ) → k ≡ pos 0 → k *ℤ y ≡ l → l ≡ pos 0
        left_out k y l e i = sym i ∙ ap (λ q. q *ℤ y) e ∙ omega (arith, ints)

        none : (u : Vector) → dot (cofactors (spot a) (spot b) (spot c)) u ≡ pos 0
        none u =
            let m = cramer_weights (spot a) (spot b) (spot c) (spot d) u in
            let e = distance_weight m (spot d) u (cramer (spot a) (spot b) (spot c) (spot d) u) in
            ⊎_elim (λ i. sym (det4-cofactors (spot a) (spot b) (spot c) u) ∙ i) (λ i. absurd (positive_some (distance g s f within (spot d)) (outside_far g s f within d o) i))
            (zero_factor (det4 (spot a) (spot b) (spot c) u) (distance g s f within (spot d)) (left_out m.k (distance g s f within u) (m.l4 *ℤ distance g s f within (spot d)) z e))

        same : (u : Vector) → dot (cofactors (spot a) (spot b) (spot c)) u ≡ dot origin u
        same u = none u ∙ sym (nothing u)

    -- a point of the face as a combination of three that are independent of a point outside
    abbrev base : ℕ
    base = (some_outside g s f within).0

    abbrev size : ℤ
    size = volume spot v a b c base

    module _ (p : ℕ) (op : On p) where
      -- by Cramer's rule
      abbrev m : Weights
      m = cramer_weights (spot a) (spot b) (spot c) (spot base) (spot p)

      mixed : IsMixOf m (spot a) (spot b) (spot c) (spot base) (spot p)
      mixed = cramer (spot a) (spot b) (spot c) (spot base) (spot p)

      no_fourth : m.l4 ≡ pos 0
      no_fourth =
          ⊎_elim (λ e. e) (λ e. absurd (positive_some (distance g s f within (spot base)) (outside_far g s f within base (some_outside g s f within).1) e))
          (zero_factor m.l4 (distance g s f within (spot base)) (sym (distance_weight m (spot base) (spot p) mixed) ∙ none m.k (dot first (spot p)) (dot second (spot p)) (face_point_tight g s f within p op)))
        where
          second : Vector
          second = entry g.pair.dual (face_at g f).second

          none : (k x y : ℤ) → (x ≡ negsuc 0) × (y ≡ negsuc 0) → k *ℤ (y -ℤ x) ≡ pos 0
          none k x y e = (λ i. k *ℤ (e.1 i -ℤ e.0 i)) ∙ omega (arith, ints)

      without_fourth : (x y z u t : ℤ) → t ≡ pos 0 → x +ℤ (y +ℤ (z +ℤ t *ℤ u)) ≡ x +ℤ (y +ℤ z)
      without_fourth x y z u t e = (λ i. x +ℤ (y +ℤ (z +ℤ e i *ℤ u))) ∙ omega (arith, ints)

      size_is : size ≡ m.l1 +ℤ (m.l2 +ℤ m.l3)
      size_is =
          by size m.l1 m.l2 m.l3
          ((λ i. size *ℤ sym (face_point_tight g s f within p op).0 i) ∙ dot_mix first m (spot a) (spot b) (spot c) (spot base) (spot p) mixed
          ∙ without_fourth (m.l1 *ℤ dot first (spot a)) (m.l2 *ℤ dot first (spot b)) (m.l3 *ℤ dot first (spot c)) (dot first (spot base)) m.l4 no_fourth
          ∙ (λ i. m.l1 *ℤ (face_point_tight g s f within a oa).0 i +ℤ (m.l2 *ℤ (face_point_tight g s f within b ob).0 i +ℤ m.l3 *ℤ (face_point_tight g s f within c oc).0 i)))
        where
          by : (k x y z : ℤ) → k *ℤ negsuc 0 ≡ x *ℤ negsuc 0 +ℤ (y *ℤ negsuc 0 +ℤ z *ℤ negsuc 0) → k ≡ x +ℤ (y +ℤ z)
          by k x y z e = omega (arith, ints, e)

      -- one coordinate
      in_coordinate : (i : ℕ) → size *ℤ coordinate i (spot p) ≡ m.l1 *ℤ coordinate i (spot a) +ℤ (m.l2 *ℤ coordinate i (spot b) +ℤ m.l3 *ℤ coordinate i (spot c))
      in_coordinate i =
          coordinate_mix i m (spot a) (spot b) (spot c) (spot base) (spot p) mixed
          ∙ without_fourth (m.l1 *ℤ coordinate i (spot a)) (m.l2 *ℤ coordinate i (spot b)) (m.l3 *ℤ coordinate i (spot c)) (coordinate i (spot base)) m.l4 no_fourth

    -- where three points are independent of any fourth vector, and on a line in the axes of the face, all its points are on a line
    pub line_of_all : (d : Vector) → det4 (spot a) (spot b) (spot c) d ≢ pos 0 → wedge first_of second_of v a b c ≡ pos 0
        → (p q r : ℕ) → On p → On q → On r → wedge first_of second_of v p q r ≡ pos 0
    line_of_all d independent line p q r op oq os =
        ⊎_elim (λ e. e) (λ e. absurd (apart (⊎_elim (λ z. z) (λ z. z) (zero_factor size size e))))
        (zero_factor (wedged p q r) (size *ℤ size)
        (wedges_mixed size (first_of a) (second_of a) (first_of b) (second_of b) (first_of c) (second_of c) (first_of p) (second_of p) (first_of q) (second_of q) (first_of r) (second_of r)
        (m p op).l1 (m p op).l2 (m p op).l3 (m q oq).l1 (m q oq).l2 (m q oq).l3 (m r os).l1 (m r os).l2 (m r os).l3
        (size_is p op) (size_is q oq) (size_is r os) (in_coordinate p op i0) (in_coordinate q oq i0) (in_coordinate r os i0) (in_coordinate p op i1) (in_coordinate q oq i1) (in_coordinate r os i1)
        ∙ zero_out (((m q oq).l2 -ℤ (m p op).l2) *ℤ ((m r os).l3 -ℤ (m p op).l3) -ℤ ((m q oq).l3 -ℤ (m p op).l3) *ℤ ((m r os).l2 -ℤ (m p op).l2)) (wedged a b c) line))
      where
        i0 : ℕ
        i0 = (axes (patch_at g f)).0

        i1 : ℕ
        i1 = (axes (patch_at g f)).1

        apart : size ≢ pos 0
        apart z = independent (all_dependent base (some_outside g s f within).1 z d)

        wedges_mixed : (k ax ay bx by cx cy px py qx qy rx ry p1 p2 p3 q1 q2 q3 r1 r2 r3 : ℤ) → k ≡ p1 +ℤ (p2 +ℤ p3) → k ≡ q1 +ℤ (q2 +ℤ q3) → k ≡ r1 +ℤ (r2 +ℤ r3)
            → k *ℤ px ≡ p1 *ℤ ax +ℤ (p2 *ℤ bx +ℤ p3 *ℤ cx) → k *ℤ qx ≡ q1 *ℤ ax +ℤ (q2 *ℤ bx +ℤ q3 *ℤ cx) → k *ℤ rx ≡ r1 *ℤ ax +ℤ (r2 *ℤ bx +ℤ r3 *ℤ cx)
            → k *ℤ py ≡ p1 *ℤ ay +ℤ (p2 *ℤ by +ℤ p3 *ℤ cy) → k *ℤ qy ≡ q1 *ℤ ay +ℤ (q2 *ℤ by +ℤ q3 *ℤ cy) → k *ℤ ry ≡ r1 *ℤ ay +ℤ (r2 *ℤ by +ℤ r3 *ℤ cy)
            → ((qx -ℤ px) *ℤ (ry -ℤ py) -ℤ (qy -ℤ py) *ℤ (rx -ℤ px)) *ℤ (k *ℤ k)
            ≡ ((q2 -ℤ p2) *ℤ (r3 -ℤ p3) -ℤ (q3 -ℤ p3) *ℤ (r2 -ℤ p2)) *ℤ ((bx -ℤ ax) *ℤ (cy -ℤ ay) -ℤ (by -ℤ ay) *ℤ (cx -ℤ ax))
        wedges_mixed k ax ay bx by cx cy px py qx qy rx ry p1 p2 p3 q1 q2 q3 r1 r2 r3 ep eq er epx eqx erx epy eqy ery =
            ring (k ∷ px ∷ py ∷ qx ∷ qy ∷ rx ∷ ry ∷ [])
            (times (minus (times (minus (var 3) (var 1)) (minus (var 6) (var 2))) (times (minus (var 4) (var 2)) (minus (var 5) (var 1)))) (times (var 0) (var 0)))
            (minus (times (minus (times (var 0) (var 3)) (times (var 0) (var 1))) (minus (times (var 0) (var 6)) (times (var 0) (var 2))))
            (times (minus (times (var 0) (var 4)) (times (var 0) (var 2))) (minus (times (var 0) (var 5)) (times (var 0) (var 1))))) refl
            ∙ (λ i. (shift k ax bx cx qx q1 q2 q3 eq eqx i -ℤ shift k ax bx cx px p1 p2 p3 ep epx i) *ℤ (shift k ay by cy ry r1 r2 r3 er ery i -ℤ shift k ay by cy py p1 p2 p3 ep epy i)
            -ℤ (shift k ay by cy qy q1 q2 q3 eq eqy i -ℤ shift k ay by cy py p1 p2 p3 ep epy i) *ℤ (shift k ax bx cx rx r1 r2 r3 er erx i -ℤ shift k ax bx cx px p1 p2 p3 ep epx i))
            ∙ ring (k ∷ ax ∷ ay ∷ bx ∷ by ∷ cx ∷ cy ∷ p2 ∷ p3 ∷ q2 ∷ q3 ∷ r2 ∷ r3 ∷ [])
            (let t = λ (i x : ℕ). plus (times (var 0) (var x)) (plus (times (var i) (minus (var (x + 2)) (var x))) (times (var (suc i)) (minus (var (x + 4)) (var x)))) in
            minus (times (minus (t 9 1) (t 7 1)) (minus (t 11 2) (t 7 2))) (times (minus (t 9 2) (t 7 2)) (minus (t 11 1) (t 7 1))))
            (times (minus (times (minus (var 9) (var 7)) (minus (var 12) (var 8))) (times (minus (var 10) (var 8)) (minus (var 11) (var 7))))
            (minus (times (minus (var 3) (var 1)) (minus (var 6) (var 2))) (times (minus (var 4) (var 2)) (minus (var 5) (var 1))))) refl
          where
            -- a combination by the differences from the first of the three
            shift : (k x y z p l1 l2 l3 : ℤ) → k ≡ l1 +ℤ (l2 +ℤ l3) → k *ℤ p ≡ l1 *ℤ x +ℤ (l2 *ℤ y +ℤ l3 *ℤ z) → k *ℤ p ≡ k *ℤ x +ℤ (l2 *ℤ (y -ℤ x) +ℤ l3 *ℤ (z -ℤ x))
            shift k x y z p l1 l2 l3 e f =
                f ∙ ring (l1 ∷ l2 ∷ l3 ∷ x ∷ y ∷ z ∷ []) (plus (times (var 0) (var 3)) (plus (times (var 1) (var 4)) (times (var 2) (var 5))))
                (plus (times (plus (var 0) (plus (var 1) (var 2))) (var 3)) (plus (times (var 1) (minus (var 4) (var 3))) (times (var 2) (minus (var 5) (var 3))))) refl
                ∙ (λ i. sym e i *ℤ x +ℤ (l2 *ℤ (y -ℤ x) +ℤ l3 *ℤ (z -ℤ x)))

    module _ (flat : wedge first_of second_of v a b c ≢ pos 0) where
      pub outside_apart : (d : ℕ) → IsOutside g s f within d → volume (place_of_point g.points) v a b c d ≢ pos 0
      outside_apart d o z =
          not_always_zero (patch_at g f) first (spot a) (spot b) (spot c) (face_point_tight g s f within a oa).0 (face_point_tight g s f within b ob).0 (face_point_tight g s f within c oc).0 flat
          (all_dependent d o z)

      apart : size ≢ pos 0
      apart = outside_apart base (some_outside g s f within).1

      module _ (p : ℕ) (op : On p) where
        abbrev q0 : ℕ
        q0 = (axes (patch_at g f)).0

        abbrev q1 : ℕ
        q1 = (axes (patch_at g f)).1

        -- the wedges with p are as the weights
        first_weight : size *ℤ wedged b c p ≡ (m p op).l1 *ℤ wedged a b c
        first_weight = wedge_weight size (m p op).l1 (m p op).l2 (m p op).l3 (first_of a) (second_of a) (first_of b) (second_of b) (first_of c) (second_of c) (first_of p) (second_of p) (size_is p op) (in_coordinate p op q0) (in_coordinate p op q1)

        second_weight : size *ℤ wedged c a p ≡ (m p op).l2 *ℤ wedged a b c
        second_weight =
            wedge_weight size (m p op).l2 (m p op).l3 (m p op).l1 (first_of b) (second_of b) (first_of c) (second_of c) (first_of a) (second_of a) (first_of p) (second_of p)
            (rotated size (m p op).l1 (m p op).l2 (m p op).l3 (size_is p op)) (rotated _ ((m p op).l1 *ℤ first_of a) ((m p op).l2 *ℤ first_of b) ((m p op).l3 *ℤ first_of c) (in_coordinate p op q0)) (rotated _ ((m p op).l1 *ℤ second_of a) ((m p op).l2 *ℤ second_of b) ((m p op).l3 *ℤ second_of c) (in_coordinate p op q1))
            ∙ ap (λ z. (m p op).l2 *ℤ z) (wedge_turn first_of second_of v a b c)

        third_weight : size *ℤ wedged a b p ≡ (m p op).l3 *ℤ wedged a b c
        third_weight =
            wedge_weight size (m p op).l3 (m p op).l1 (m p op).l2 (first_of c) (second_of c) (first_of a) (second_of a) (first_of b) (second_of b) (first_of p) (second_of p)
            (rotated size (m p op).l2 (m p op).l3 (m p op).l1 (rotated size (m p op).l1 (m p op).l2 (m p op).l3 (size_is p op)))
            (rotated _ ((m p op).l2 *ℤ first_of b) ((m p op).l3 *ℤ first_of c) ((m p op).l1 *ℤ first_of a) (rotated _ ((m p op).l1 *ℤ first_of a) ((m p op).l2 *ℤ first_of b) ((m p op).l3 *ℤ first_of c) (in_coordinate p op q0)))
            (rotated _ ((m p op).l2 *ℤ second_of b) ((m p op).l3 *ℤ second_of c) ((m p op).l1 *ℤ second_of a) (rotated _ ((m p op).l1 *ℤ second_of a) ((m p op).l2 *ℤ second_of b) ((m p op).l3 *ℤ second_of c) (in_coordinate p op q1)))
            ∙ ap (λ z. (m p op).l3 *ℤ z) (sym (wedge_turn first_of second_of v c a b) ∙ refl)

        -- p is a combination of a, b and c, and of any vector 0 times
        pub plane_mix : (d : Vector) → IsMixOf (plane_weights a b c p) (place_of_point g.points a) (place_of_point g.points b) (place_of_point g.points c) d (place_of_point g.points p)
        plane_mix d =
            let e1 = one 1 d.x1 in let e2 = one 2 d.x2 in let e3 = one 3 d.x3 in let e4 = one 4 d.x4 in
            λ i. record { x1 = e1 i; x2 = e2 i; x3 = e3 i; x4 = e4 i }
          where
            scaled : (k w x y z l1 l2 l3 t1 t2 t3 n p : ℤ) → k *ℤ p ≡ l1 *ℤ x +ℤ (l2 *ℤ y +ℤ l3 *ℤ z) → k *ℤ t1 ≡ l1 *ℤ w → k *ℤ t2 ≡ l2 *ℤ w → k *ℤ t3 ≡ l3 *ℤ w
                → (w *ℤ p) *ℤ k ≡ (t1 *ℤ x +ℤ (t2 *ℤ y +ℤ (t3 *ℤ z +ℤ pos 0 *ℤ n))) *ℤ k
            scaled k w x y z l1 l2 l3 t1 t2 t3 n p e e1 e2 e3 =
                ring (k ∷ w ∷ p ∷ []) (times (times (var 1) (var 2)) (var 0)) (times (var 1) (times (var 0) (var 2))) refl
                ∙ ap (λ u. w *ℤ u) e
                ∙ ring (w ∷ l1 ∷ l2 ∷ l3 ∷ x ∷ y ∷ z ∷ []) (times (var 0) (plus (times (var 1) (var 4)) (plus (times (var 2) (var 5)) (times (var 3) (var 6)))))
                (plus (times (times (var 1) (var 0)) (var 4)) (plus (times (times (var 2) (var 0)) (var 5)) (times (times (var 3) (var 0)) (var 6)))) refl
                ∙ (λ i. sym e1 i *ℤ x +ℤ (sym e2 i *ℤ y +ℤ sym e3 i *ℤ z))
                ∙ ring (k ∷ t1 ∷ t2 ∷ t3 ∷ x ∷ y ∷ z ∷ n ∷ [])
                (plus (times (times (var 0) (var 1)) (var 4)) (plus (times (times (var 0) (var 2)) (var 5)) (times (times (var 0) (var 3)) (var 6))))
                (times (plus (times (var 1) (var 4)) (plus (times (var 2) (var 5)) (plus (times (var 3) (var 6)) (times (num (pos 0)) (var 7))))) (var 0)) refl

            one : (i : ℕ) (n : ℤ) → wedged a b c *ℤ coordinate i (spot p)
                ≡ wedged b c p *ℤ coordinate i (spot a) +ℤ (wedged c a p *ℤ coordinate i (spot b) +ℤ (wedged a b p *ℤ coordinate i (spot c) +ℤ pos 0 *ℤ n))
            one i n =
                cancel_other _ _ size apart
                (scaled size (wedged a b c) (coordinate i (spot a)) (coordinate i (spot b)) (coordinate i (spot c)) (m p op).l1 (m p op).l2 (m p op).l3 (wedged b c p) (wedged c a p) (wedged a b p) n (coordinate i (spot p))
                (in_coordinate p op i) first_weight second_weight third_weight)

        -- ---- the rise above a, b, c and a fourth point

        module _ (d : ℕ) where
          abbrev whole_volume : ℤ
          whole_volume = volume spot v a b c d

          pub plane_volume : volume (place_of_point g.points) v a b c p ≡ pos 0
          plane_volume =
              ⊎_elim (λ e. absurd (flat e)) (λ e. e)
              (zero_factor (wedged a b c) (volume spot v a b c p) (weight4 (plane_weights a b c p) (spot a) (spot b) (spot c) (spot d) (spot p) (plane_mix (spot d)) ∙ zero_product whole_volume))

          pub plane_rise : wedge first_of second_of v a b c *ℤ rise (place_of_point g.points) v a b c d p ≡ volume (place_of_point g.points) v a b c d *ℤ lift first_of second_of v a b c p
          plane_rise =
              let t = plane_weights a b c p in
              let e = plane_mix (spot d) in
              by (wedged a b c) whole_volume (volume spot v p b c d) (volume spot v a p c d) (volume spot v a b p d) (volume spot v a b c p) (wedged b c p) (wedged c a p) (wedged a b p) (v p) (v a) (v b) (v c) (v d)
              (ap (λ z. wedged a b c *ℤ z) (turned _ _ (first_last (spot p) (spot b) (spot c) (spot d))) ∙ product_neg (wedged a b c) (det4 (spot b) (spot c) (spot d) (spot p)) ∙ ap neg_ℤ (weight1 t (spot a) (spot b) (spot c) (spot d) (spot p) e)
              ∙ sym (product_neg (wedged b c p) (det4 (spot b) (spot c) (spot d) (spot a))) ∙ ap (λ z. wedged b c p *ℤ z) (sym (turned _ _ (first_last (spot a) (spot b) (spot c) (spot d)))))
              (ap (λ z. wedged a b c *ℤ z) (sym (second_last (spot a) (spot p) (spot c) (spot d))) ∙ weight2 t (spot a) (spot b) (spot c) (spot d) (spot p) e ∙ ap (λ z. wedged c a p *ℤ z) (second_last (spot a) (spot b) (spot c) (spot d)))
              (ap (λ z. wedged a b c *ℤ z) (turned _ _ (swap_last (spot a) (spot b) (spot p) (spot d))) ∙ product_neg (wedged a b c) (det4 (spot a) (spot b) (spot d) (spot p)) ∙ ap neg_ℤ (weight3 t (spot a) (spot b) (spot c) (spot d) (spot p) e)
              ∙ sym (product_neg (wedged a b p) (det4 (spot a) (spot b) (spot d) (spot c))) ∙ ap (λ z. wedged a b p *ℤ z) (sym (turned _ _ (swap_last (spot a) (spot b) (spot c) (spot d)))))
              plane_volume
            where
              turned : (y z : ℤ) → y ≡ neg_ℤ z → z ≡ neg_ℤ y
              turned y z e = omega (arith, ints, e)

              by : (w u v1 v2 v3 v4 w1 w2 w3 h h1 h2 h3 h4 : ℤ) → w *ℤ v1 ≡ w1 *ℤ u → w *ℤ v2 ≡ w2 *ℤ u → w *ℤ v3 ≡ w3 *ℤ u → v4 ≡ pos 0
                  → w *ℤ (u *ℤ h -ℤ (v1 *ℤ h1 +ℤ v2 *ℤ h2 +ℤ v3 *ℤ h3 +ℤ v4 *ℤ h4)) ≡ u *ℤ (w *ℤ h -ℤ (w1 *ℤ h1 +ℤ w2 *ℤ h2 +ℤ w3 *ℤ h3))
              by w u v1 v2 v3 v4 w1 w2 w3 h h1 h2 h3 h4 e1 e2 e3 e4 =
                  ring (w ∷ u ∷ v1 ∷ v2 ∷ v3 ∷ v4 ∷ h ∷ h1 ∷ h2 ∷ h3 ∷ h4 ∷ [])
                  (times (var 0) (minus (times (var 1) (var 6)) (plus (plus (plus (times (var 2) (var 7)) (times (var 3) (var 8))) (times (var 4) (var 9))) (times (var 5) (var 10)))))
                  (minus (times (times (var 0) (var 1)) (var 6)) (plus (plus (plus (times (times (var 0) (var 2)) (var 7)) (times (times (var 0) (var 3)) (var 8))) (times (times (var 0) (var 4)) (var 9))) (times (times (var 0) (var 5)) (var 10)))) refl
                  ∙ (λ i. (w *ℤ u) *ℤ h -ℤ (e1 i *ℤ h1 +ℤ e2 i *ℤ h2 +ℤ e3 i *ℤ h3 +ℤ (w *ℤ e4 i) *ℤ h4))
                  ∙ ring (w ∷ u ∷ w1 ∷ w2 ∷ w3 ∷ h ∷ h1 ∷ h2 ∷ h3 ∷ h4 ∷ [])
                  (minus (times (times (var 0) (var 1)) (var 5)) (plus (plus (plus (times (times (var 2) (var 1)) (var 6)) (times (times (var 3) (var 1)) (var 7))) (times (times (var 4) (var 1)) (var 8))) (times (times (var 0) (num (pos 0))) (var 9))))
                  (times (var 1) (minus (times (var 0) (var 5)) (plus (plus (times (var 2) (var 6)) (times (var 3) (var 7))) (times (var 4) (var 8))))) refl
