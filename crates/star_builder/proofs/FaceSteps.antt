-- Boundary steps of a two-face whose points are all used: they are the sides of lower triples with no point beyond.
--     no_between      no point lies between two corners of a lower triple
--     line_over      a point on the line of a step, but not between its ends, lies above the triples at the step
--     some_left      some point lies to the left of a step
--     step_triple      a lower triple at a step
--     lower_step      a side of a lower triple without one on the other side is a step
use Rattle.std.proofs.Common.{◌≡◌, ◌≢◌, ℕ, zero, suc, ◌+◌, ◌-◌, ◌<◌, ⊎_elim, refl, sym, ap, ◌∙◌, subst, arith, ℤ, pos, negsuc, ◌+ℤ◌, ◌-ℤ◌, ◌*ℤ◌, ◌<ℤ◌, ◌≤ℤ◌, neg_ℤ, [], ◌∷◌, length}
use Rattle.std.specs.Prelude.{slice_index_or}
use Rattle.std.proofs.lemmas.Int.{ints}
use Rattle.ntfe_nums.specs.Vectors.{Vector, numbers, coordinate, vector_sum, multiple, sign}
use Rattle.ntfe_nums.proofs.Ring.{ring, one_product}
use Rattle.ntfe_nums.proofs.Ring.Expression.{var, num, plus, minus, times}
use Rattle.ntfe_model.specs.Points.{place_of_point}
use Rattle.ntfe_model.specs.Shapes.{Shape, IsShape}
use Rattle.ntfe_model.specs.Charts.{patch_at, place, turn, spot_numbers, IsOf, IsOnSegment, IsStep}
use Rattle.ntfe_model.proofs.GeometryPoints.{point_within, point_place}
use Rattle.ntfe_model.proofs.PlaneNumbers.{cancel_other, sign_negative}
use Rattle.ntfe_model.proofs.Triples.{decide_listed}
use Rattle.ntfe_model.proofs.UnitTriples.{area_of}
use Rattle.star_builder.proofs.FourWeights.{IsMixOf, mixed_sum}
use Rattle.star_builder.proofs.EmptyTriples.{empty_triple}
use Rattle.star_builder.proofs.FaceLevels.{face_apart}
use Rattle.star_builder.proofs.FacePlanes.{first_of, second_of, area_wedge, wedge_sum, plane_mix}
use Rattle.star_builder.proofs.FaceSimplices.{IsBelowFace, never_level}
use Rattle.star_builder.proofs.Inducing.{area_exists}
use Rattle.star_builder.proofs.LowSimplices.{IsGeneric}
use Rattle.star_builder.proofs.Planar.{wedge, lift, wedge_turn, wedge_swap, wedge_outer, wedge_last, left_apart, step_lower, reverse_lower}
use Rattle.ntfe_nums.proofs.Signs.{above_zero, factor_not_negative, negative_or, product_not_negative, zero_or, not_negative, positive_some, zero_not_negative, sum_not_negative}
use Rattle.star_builder.proofs.UsedPoints.{IsUsed, three_weights, used_below}

-- ---- points between two others

-- a coordinate of a point between two others
pub coordinate_two : (i : ℕ) (k l1 l2 : ℤ) (a b p : Vector) → multiple k p ≡ vector_sum (multiple l1 a) (multiple l2 b) → k *ℤ coordinate i p ≡ l1 *ℤ coordinate i a +ℤ l2 *ℤ coordinate i b
coordinate_two i k l1 l2 a b p e = at_place (i - 1)
  where
    zeros : (k l1 l2 : ℤ) → k *ℤ pos 0 ≡ l1 *ℤ pos 0 +ℤ l2 *ℤ pos 0
    zeros k l1 l2 = omega (arith, ints)

    at_place : (j : ℕ) → k *ℤ slice_index_or (numbers p) j (pos 0) ≡ l1 *ℤ slice_index_or (numbers a) j (pos 0) +ℤ l2 *ℤ slice_index_or (numbers b) j (pos 0)
    at_place zero = ap (λ v. v.x1) e
    at_place (suc zero) = ap (λ v. v.x2) e
    at_place (suc (suc zero)) = ap (λ v. v.x3) e
    at_place (suc (suc (suc zero))) = ap (λ v. v.x4) e
    at_place (suc (suc (suc (suc j)))) = zeros k l1 l2

-- a coordinate of two combinations that are one
pub coordinate_meet : (i : ℕ) (k1 k2 l1 l2 : ℤ) (c d a b : Vector) → vector_sum (multiple k1 c) (multiple k2 d) ≡ vector_sum (multiple l1 a) (multiple l2 b)
    → k1 *ℤ coordinate i c +ℤ k2 *ℤ coordinate i d ≡ l1 *ℤ coordinate i a +ℤ l2 *ℤ coordinate i b
coordinate_meet i k1 k2 l1 l2 c d a b e = single (coordinate_two i (pos 1) k1 k2 c d (vector_sum (multiple k1 c) (multiple k2 d)) (times_one (vector_sum (multiple k1 c) (multiple k2 d))))
    (coordinate_two i (pos 1) l1 l2 a b (vector_sum (multiple k1 c) (multiple k2 d)) (times_one (vector_sum (multiple k1 c) (multiple k2 d)) ∙ e))
  where
    times_one : (u : Vector) → multiple (pos 1) u ≡ u
    times_one u = λ i. record { x1 = one_product u.x1 i; x2 = one_product u.x2 i; x3 = one_product u.x3 i; x4 = one_product u.x4 i }

    single : {x y z : ℤ} → x ≡ y → x ≡ z → y ≡ z
    single p q = sym p ∙ q

-- a wedge with a point between two others
wedge_two : (k l1 l2 ix iy jx jy ax ay bx by px py : ℤ) → k ≡ l1 +ℤ l2 → k *ℤ px ≡ l1 *ℤ ax +ℤ l2 *ℤ bx → k *ℤ py ≡ l1 *ℤ ay +ℤ l2 *ℤ by
    → k *ℤ ((jx -ℤ ix) *ℤ (py -ℤ iy) -ℤ (jy -ℤ iy) *ℤ (px -ℤ ix))
    ≡ l1 *ℤ ((jx -ℤ ix) *ℤ (ay -ℤ iy) -ℤ (jy -ℤ iy) *ℤ (ax -ℤ ix)) +ℤ l2 *ℤ ((jx -ℤ ix) *ℤ (by -ℤ iy) -ℤ (jy -ℤ iy) *ℤ (bx -ℤ ix))
wedge_two k l1 l2 ix iy jx jy ax ay bx by px py e ex ey =
    ring (k ∷ ix ∷ iy ∷ jx ∷ jy ∷ px ∷ py ∷ [])
    (times (var 0) (minus (times (minus (var 3) (var 1)) (minus (var 6) (var 2))) (times (minus (var 4) (var 2)) (minus (var 5) (var 1)))))
    (minus (times (minus (var 3) (var 1)) (minus (times (var 0) (var 6)) (times (var 0) (var 2)))) (times (minus (var 4) (var 2)) (minus (times (var 0) (var 5)) (times (var 0) (var 1))))) refl
    ∙ (λ i. (jx -ℤ ix) *ℤ (ey i -ℤ e i *ℤ iy) -ℤ (jy -ℤ iy) *ℤ (ex i -ℤ e i *ℤ ix))
    ∙ ring (l1 ∷ l2 ∷ ix ∷ iy ∷ jx ∷ jy ∷ ax ∷ ay ∷ bx ∷ by ∷ [])
    (let mixE = λ (i : ℕ). plus (times (var 0) (var i)) (times (var 1) (var (i + 2))) in
    let all = plus (var 0) (var 1) in
    minus (times (minus (var 4) (var 2)) (minus (mixE 7) (times all (var 3)))) (times (minus (var 5) (var 3)) (minus (mixE 6) (times all (var 2)))))
    (let w = λ (i : ℕ). minus (times (minus (var 4) (var 2)) (minus (var (suc i)) (var 3))) (times (minus (var 5) (var 3)) (minus (var i) (var 2))) in
    plus (times (var 0) (w 6)) (times (var 1) (w 8))) refl

module _ (g : Shape) (s : IsShape g) (f : ℕ) (within : f < length g.faces) (v : ℕ → ℤ) (used : (p : ℕ) → IsOf (patch_at g f) p → IsUsed g.points v p) where
  abbrev On : ℕ → Type 0
  On = IsOf (patch_at g f)

  abbrev spot : ℕ → Vector
  spot = place_of_point g.points

  abbrev X : ℕ → ℤ
  X = first_of g s f within v

  abbrev Y : ℕ → ℤ
  Y = second_of g s f within v

  -- ---- no point between two corners

  pub no_between : (a b c : ℕ) → IsBelowFace g s f within v a b c → (p : ℕ) → IsOf (patch_at g f) p → p ≢ a → p ≢ b → ¬ (IsOnSegment (place (patch_at g f) a) (place (patch_at g f) b) (place (patch_at g f) p))
  no_between a b c l p op pa pb seg =
      ⊎_elim pa (λ q. ⊎_elim pb (λ e. positive_some (wedge X Y v a b c) l.left (ap (wedge X Y v a b) (sym e) ∙ level)) q)
      (empty_triple g s f within v used a b c l p op
      (part (wedge X Y v b c p) (pos seg.n -ℤ pos seg.s) (wedge X Y v a b c) (pos seg.s) (pos 0) (between b c) first_low (not_negative (wedge X Y v a b c) l.left) (omega (arith, ints)) (omega (arith, ints))
      (wedge_turn X Y v a b c) (wedge_outer X Y v b c))
      (part (wedge X Y v c a p) (pos seg.n -ℤ pos seg.s) (pos 0) (pos seg.s) (wedge X Y v a b c) (between c a) first_low (omega (arith, ints)) (omega (arith, ints)) (not_negative (wedge X Y v a b c) l.left)
      (wedge_last X Y v c a) (sym (wedge_turn X Y v c a b) ∙ refl))
      (zero_not_negative (wedge X Y v a b p) level))
    where
      mix : multiple (pos seg.n) (spot p) ≡ vector_sum (multiple (pos seg.n -ℤ pos seg.s) (spot a)) (multiple (pos seg.s) (spot b))
      mix =
          (λ i. multiple (pos seg.n) (sym (point_place g s f within p op) i)) ∙ seg.mix
          ∙ (λ i. vector_sum (multiple (pos seg.n -ℤ pos seg.s) (point_place g s f within a l.points.0 i)) (multiple (pos seg.s) (point_place g s f within b l.points.1 i)))

      positive : pos 0 <ℤ pos seg.n
      positive = (let h = seg.range.0 in omega (arith, ints, h))

      first_low : pos 0 ≤ℤ (pos seg.n -ℤ pos seg.s)
      first_low = (let h = seg.range.1 in omega (arith, ints, h))

      size : (n m : ℤ) → n ≡ (n -ℤ m) +ℤ m
      size n m = omega (arith, ints)

      between : (i j : ℕ) → pos seg.n *ℤ wedge X Y v i j p ≡ (pos seg.n -ℤ pos seg.s) *ℤ wedge X Y v i j a +ℤ pos seg.s *ℤ wedge X Y v i j b
      between i j =
          wedge_two (pos seg.n) (pos seg.n -ℤ pos seg.s) (pos seg.s) (X i) (Y i) (X j) (Y j) (X a) (Y a) (X b) (Y b) (X p) (Y p) (size (pos seg.n) (pos seg.s))
          (coordinate_two _ (pos seg.n) (pos seg.n -ℤ pos seg.s) (pos seg.s) (spot a) (spot b) (spot p) mix) (coordinate_two _ (pos seg.n) (pos seg.n -ℤ pos seg.s) (pos seg.s) (spot a) (spot b) (spot p) mix)

      part : (w l1 w1 l2 w2 : ℤ) {u1 u2 : ℤ} → pos seg.n *ℤ w ≡ l1 *ℤ u1 +ℤ l2 *ℤ u2 → pos 0 ≤ℤ l1 → pos 0 ≤ℤ w1 → pos 0 ≤ℤ l2 → pos 0 ≤ℤ w2 → u1 ≡ w1 → u2 ≡ w2 → pos 0 ≤ℤ w
      part w l1 w1 l2 w2 e h1 k1 h2 k2 i1 i2 =
          factor_not_negative (pos seg.n) w positive
          (subst (λ z. pos 0 ≤ℤ z) ((λ i. l1 *ℤ sym i1 i +ℤ l2 *ℤ sym i2 i) ∙ sym e) (sum_not_negative (l1 *ℤ w1) (l2 *ℤ w2) (product_not_negative l1 w1 h1 k1) (product_not_negative l2 w2 h2 k2)))

      level : wedge X Y v a b p ≡ pos 0
      level =
          cancel_other (wedge X Y v a b p) (pos 0) (pos seg.n) (λ e. positive_some (pos seg.n) positive e)
          (ring (wedge X Y v a b p ∷ pos seg.n ∷ []) (times (var 0) (var 1)) (times (var 1) (var 0)) refl ∙ between a b
          ∙ (λ i. (pos seg.n -ℤ pos seg.s) *ℤ wedge_outer X Y v a b i +ℤ pos seg.s *ℤ wedge_last X Y v a b i) ∙ none (pos seg.n -ℤ pos seg.s) (pos seg.s) (pos seg.n))
        where
          none : (x y z : ℤ) → x *ℤ pos 0 +ℤ y *ℤ pos 0 ≡ pos 0 *ℤ z
          none x y z = omega (arith, ints)

  -- ---- points on the line of a step

  module _ (a b c p : ℕ) (oa : On a) (ob : On b) (oc : On c) (op : On p) (left : pos 0 <ℤ wedge X Y v a b c) (pa : p ≢ a) (pb : p ≢ b) (level : wedge X Y v a b p ≡ pos 0) where
    abbrev k : ℤ
    k = wedge X Y v a b c

    abbrev l1 : ℤ
    l1 = wedge X Y v b c p

    abbrev l2 : ℤ
    l2 = wedge X Y v c a p

    abbrev l3 : ℤ
    l3 = wedge X Y v a b p

    flat : k ≢ pos 0
    flat e = positive_some k left e

    mix : IsMixOf (three_weights k l1 l2 l3) (spot a) (spot b) (spot c) (spot c) (spot p)
    mix = plane_mix g s f within v a b c oa ob oc flat p op (spot c)

    size_is : k ≡ l1 +ℤ l2
    size_is = by k l1 l2 l3 (wedge_sum g s f within v a b c p) level
      where
        by : (k x y z : ℤ) → k ≡ x +ℤ (y +ℤ z) → z ≡ pos 0 → k ≡ x +ℤ y
        by k x y z e i = omega (arith, ints, e, i)

    third_none : (z : ℤ) → l3 *ℤ z ≡ pos 0
    third_none z = ap (λ u. u *ℤ z) level ∙ omega (arith, ints)

    minus_out : (x y : ℤ) → (pos 0 -ℤ x) *ℤ y ≡ pos 0 -ℤ x *ℤ y
    minus_out x y = ring (x ∷ y ∷ []) (times (minus (num (pos 0)) (var 0)) (var 1)) (minus (num (pos 0)) (times (var 0) (var 1))) refl

    -- a from p and b, and b from p and a, where p is beyond
    from_second : (x0 y0 z0 p0 : ℤ) → k *ℤ p0 ≡ l1 *ℤ x0 +ℤ (l2 *ℤ y0 +ℤ (l3 *ℤ z0 +ℤ pos 0 *ℤ z0)) → l2 *ℤ y0 ≡ k *ℤ p0 +ℤ ((pos 0 -ℤ l1) *ℤ x0 +ℤ (pos 0 *ℤ x0 +ℤ pos 0 *ℤ z0))
    from_second x0 y0 z0 p0 e = by (k *ℤ p0) (l1 *ℤ x0) (l2 *ℤ y0) (l3 *ℤ z0) ((pos 0 -ℤ l1) *ℤ x0) e (third_none z0) (minus_out l1 x0)
      where
        by : (q x y z n : ℤ) → q ≡ x +ℤ (y +ℤ (z +ℤ pos 0 *ℤ z0)) → z ≡ pos 0 → n ≡ pos 0 -ℤ x → y ≡ q +ℤ (n +ℤ (pos 0 *ℤ x0 +ℤ pos 0 *ℤ z0))
        by q x y z n e i j = omega (arith, ints, e, i, j)

    from_first : (x0 y0 z0 p0 : ℤ) → k *ℤ p0 ≡ l1 *ℤ x0 +ℤ (l2 *ℤ y0 +ℤ (l3 *ℤ z0 +ℤ pos 0 *ℤ z0)) → l1 *ℤ x0 ≡ k *ℤ p0 +ℤ ((pos 0 -ℤ l2) *ℤ y0 +ℤ (pos 0 *ℤ y0 +ℤ pos 0 *ℤ z0))
    from_first x0 y0 z0 p0 e = by (k *ℤ p0) (l1 *ℤ x0) (l2 *ℤ y0) (l3 *ℤ z0) ((pos 0 -ℤ l2) *ℤ y0) e (third_none z0) (minus_out l2 y0)
      where
        by : (q x y z n : ℤ) → q ≡ x +ℤ (y +ℤ (z +ℤ pos 0 *ℤ z0)) → z ≡ pos 0 → n ≡ pos 0 -ℤ y → x ≡ q +ℤ (n +ℤ (pos 0 *ℤ y0 +ℤ pos 0 *ℤ z0))
        by q x y z n e i j = omega (arith, ints, e, i, j)

    between_number : (x0 y0 z0 p0 : ℤ) → k *ℤ p0 ≡ l1 *ℤ x0 +ℤ (l2 *ℤ y0 +ℤ (l3 *ℤ z0 +ℤ pos 0 *ℤ z0)) → k *ℤ p0 ≡ (k -ℤ l2) *ℤ x0 +ℤ l2 *ℤ y0
    between_number x0 y0 z0 p0 e = by (k *ℤ p0) (l1 *ℤ x0) (l2 *ℤ y0) (l3 *ℤ z0) e (third_none z0) ∙ (λ i. first_is k l1 l2 size_is i *ℤ x0 +ℤ l2 *ℤ y0)
      where
        by : (q x y z : ℤ) → q ≡ x +ℤ (y +ℤ (z +ℤ pos 0 *ℤ z0)) → z ≡ pos 0 → q ≡ x +ℤ y
        by q x y z e i = omega (arith, ints, e, i)

        first_is : (k x y : ℤ) → k ≡ x +ℤ y → x ≡ k -ℤ y
        first_is k x y e = omega (arith, ints, e)

    -- p is above where an end lies between p and the other end
    beyond_second : l1 <ℤ pos 0 → pos 0 ≤ℤ lift X Y v a b c p
    beyond_second h =
        by (k *ℤ v p) (l1 *ℤ v a) (l2 *ℤ v b) (l3 *ℤ v c) ((pos 0 -ℤ l1) *ℤ v a) (third_none (v c)) (minus_out l1 (v a))
        (used_below g.points v b (used b ob) p a a (point_within g s f within p op) (point_within g s f within a oa) (point_within g s f within a oa) l2 k (pos 0 -ℤ l1) (pos 0)
        (not_negative k left) (turned l1 h) (omega (arith, ints)) (other k l1 l2 size_is) (spot c)
        (λ i. record {
          x1 = from_second (spot a).x1 (spot b).x1 (spot c).x1 (spot p).x1 (ap (λ u. u.x1) mix) i;
          x2 = from_second (spot a).x2 (spot b).x2 (spot c).x2 (spot p).x2 (ap (λ u. u.x2) mix) i;
          x3 = from_second (spot a).x3 (spot b).x3 (spot c).x3 (spot p).x3 (ap (λ u. u.x3) mix) i;
          x4 = from_second (spot a).x4 (spot b).x4 (spot c).x4 (spot p).x4 (ap (λ u. u.x4) mix) i;
        }))
      where
        turned : (z : ℤ) → z <ℤ pos 0 → pos 0 ≤ℤ (pos 0 -ℤ z)
        turned z h = omega (arith, ints, h)

        other : (k x y : ℤ) → k ≡ x +ℤ y → y ≡ k +ℤ ((pos 0 -ℤ x) +ℤ pos 0)
        other k x y e = omega (arith, ints, e)

        by : (q x y z n : ℤ) → z ≡ pos 0 → n ≡ pos 0 -ℤ x → pos 0 ≤ℤ ((q +ℤ (n +ℤ pos 0 *ℤ v a)) -ℤ y) → pos 0 ≤ℤ (q -ℤ (x +ℤ y +ℤ z))
        by q x y z n i j h = omega (arith, ints, i, j, h)

    beyond_first : l2 <ℤ pos 0 → pos 0 ≤ℤ lift X Y v a b c p
    beyond_first h =
        by (k *ℤ v p) (l1 *ℤ v a) (l2 *ℤ v b) (l3 *ℤ v c) ((pos 0 -ℤ l2) *ℤ v b) (third_none (v c)) (minus_out l2 (v b))
        (used_below g.points v a (used a oa) p b b (point_within g s f within p op) (point_within g s f within b ob) (point_within g s f within b ob) l1 k (pos 0 -ℤ l2) (pos 0)
        (not_negative k left) (turned l2 h) (omega (arith, ints)) (other k l1 l2 size_is) (spot c)
        (λ i. record {
          x1 = from_first (spot a).x1 (spot b).x1 (spot c).x1 (spot p).x1 (ap (λ u. u.x1) mix) i;
          x2 = from_first (spot a).x2 (spot b).x2 (spot c).x2 (spot p).x2 (ap (λ u. u.x2) mix) i;
          x3 = from_first (spot a).x3 (spot b).x3 (spot c).x3 (spot p).x3 (ap (λ u. u.x3) mix) i;
          x4 = from_first (spot a).x4 (spot b).x4 (spot c).x4 (spot p).x4 (ap (λ u. u.x4) mix) i;
        }))
      where
        turned : (z : ℤ) → z <ℤ pos 0 → pos 0 ≤ℤ (pos 0 -ℤ z)
        turned z h = omega (arith, ints, h)

        other : (k x y : ℤ) → k ≡ x +ℤ y → x ≡ k +ℤ ((pos 0 -ℤ y) +ℤ pos 0)
        other k x y e = omega (arith, ints, e)

        by : (q x y z n : ℤ) → z ≡ pos 0 → n ≡ pos 0 -ℤ y → pos 0 ≤ℤ ((q +ℤ (n +ℤ pos 0 *ℤ v b)) -ℤ x) → pos 0 ≤ℤ (q -ℤ (x +ℤ y +ℤ z))
        by q x y z n i j h = omega (arith, ints, i, j, h)

    -- else p lies between the ends
    on_segment : pos 0 ≤ℤ l1 → pos 0 ≤ℤ l2 → IsOnSegment (place (patch_at g f) a) (place (patch_at g f) b) (place (patch_at g f) p)
    on_segment h1 h2 =
        by k l2 left h2 (below k l1 l2 size_is h1)
        ((λ i. multiple k (point_place g s f within p op i))
        ∙ (λ i. record {
          x1 = between_number (spot a).x1 (spot b).x1 (spot c).x1 (spot p).x1 (ap (λ u. u.x1) mix) i;
          x2 = between_number (spot a).x2 (spot b).x2 (spot c).x2 (spot p).x2 (ap (λ u. u.x2) mix) i;
          x3 = between_number (spot a).x3 (spot b).x3 (spot c).x3 (spot p).x3 (ap (λ u. u.x3) mix) i;
          x4 = between_number (spot a).x4 (spot b).x4 (spot c).x4 (spot p).x4 (ap (λ u. u.x4) mix) i;
        })
        ∙ (λ i. vector_sum (multiple (k -ℤ l2) (sym (point_place g s f within a oa) i)) (multiple l2 (sym (point_place g s f within b ob) i))))
      where
        below : (k x y : ℤ) → k ≡ x +ℤ y → pos 0 ≤ℤ x → y ≤ℤ k
        below k x y e h = omega (arith, ints, e, h)

        by : {x y z : Vector} (n m : ℤ) → pos 0 <ℤ n → pos 0 ≤ℤ m → m ≤ℤ n → multiple n z ≡ vector_sum (multiple (n -ℤ m) x) (multiple m y) → IsOnSegment x y z
        by (pos n) (pos m) i j h e = record { n = n; s = m; range = (omega (arith, ints, i), omega (arith, ints, h)); mix = e }
        by (pos n) (negsuc m) i j h e = absurd (omega (arith, ints, j))
        by (negsuc n) m i j h e = absurd (omega (arith, ints, i))

    pub line_over : ¬ (IsOnSegment (place (patch_at g f) a) (place (patch_at g f) b) (place (patch_at g f) p)) → pos 0 ≤ℤ lift (first_of g s f within v) (second_of g s f within v) v a b c p
    line_over clear =
        ⊎_elim beyond_second (λ h1. ⊎_elim beyond_first (λ h2. absurd (clear (on_segment h1 h2))) (negative_or l2)) (negative_or l1)

  -- ---- points to the left of a step

  -- where three points that aren't on a line are level with two others, these are one
  module _ (a b p q r : ℕ) (oa : On a) (ob : On b) (op : On p) (oq : On q) (o : On r) (flat : wedge X Y v p q r ≢ pos 0)
      (ep : wedge X Y v a b p ≡ pos 0) (eq : wedge X Y v a b q ≡ pos 0) (er : wedge X Y v a b r ≡ pos 0) where
    moved : (i j : ℕ) → wedge X Y v a b i ≡ pos 0 → wedge X Y v a b j ≡ pos 0 → wedge X Y v i j b ≡ wedge X Y v i j a
    moved i j ei ej =
        (let w = λ (x y z : ℕ). minus (times (minus (var y) (var x)) (minus (var (suc z)) (var (suc x)))) (times (minus (var (suc y)) (var (suc x))) (minus (var z) (var x))) in
        ring (X a ∷ Y a ∷ X b ∷ Y b ∷ X i ∷ Y i ∷ X j ∷ Y j ∷ []) (w 4 6 2) (plus (w 4 6 0) (minus (w 0 2 4) (w 0 2 6))) refl)
        ∙ (λ k. wedge X Y v i j a +ℤ (ei k -ℤ ej k)) ∙ none (wedge X Y v i j a)
      where
        none : (z : ℤ) → z +ℤ (pos 0 -ℤ pos 0) ≡ z
        none z = omega (arith, ints)

    abbrev three : ℤ
    three = wedge X Y v p q r

    same_multiple : multiple three (spot b) ≡ multiple three (spot a)
    same_multiple =
        plane_mix g s f within v p q r op oq o flat b ob (spot a)
        ∙ (λ i. mixed_sum (moved q r eq er i) (moved r p er ep i) (moved p q ep eq i) (pos 0) (spot p) (spot q) (spot r) (spot a))
        ∙ sym (plane_mix g s f within v p q r op oq o flat a oa (spot a))

    same_number : (y z : ℤ) → three *ℤ y ≡ three *ℤ z → y ≡ z
    same_number y z e = cancel_other y z three flat (turned y ∙ e ∙ sym (turned z))
      where
        turned : (z : ℤ) → z *ℤ three ≡ three *ℤ z
        turned z = ring (z ∷ three ∷ []) (times (var 0) (var 1)) (times (var 1) (var 0)) refl

    level_same : a ≡ b
    level_same =
        face_apart g s f within a b oa ob
        (point_place g s f within a oa
        ∙ (λ i. record {
          x1 = same_number (spot a).x1 (spot b).x1 (ap (λ u. u.x1) (sym same_multiple)) i;
          x2 = same_number (spot a).x2 (spot b).x2 (ap (λ u. u.x2) (sym same_multiple)) i;
          x3 = same_number (spot a).x3 (spot b).x3 (ap (λ u. u.x3) (sym same_multiple)) i;
          x4 = same_number (spot a).x4 (spot b).x4 (ap (λ u. u.x4) (sym same_multiple)) i;
        })
        ∙ sym (point_place g s f within b ob))

  pub some_left : (a b : ℕ) → IsOf (patch_at g f) a → IsOf (patch_at g f) b → a ≢ b → ((p : ℕ) → IsOf (patch_at g f) p → pos 0 ≤ℤ wedge (first_of g s f within v) (second_of g s f within v) v a b p)
      → (c : ℕ) × IsOf (patch_at g f) c × (pos 0 <ℤ wedge (first_of g s f within v) (second_of g s f within v) v a b c)
  some_left a b oa ob n outer = by (area_exists g s f within)
    where
      by : (p : ℕ) × (q : ℕ) × (r : ℕ) × IsOf (patch_at g f) p × IsOf (patch_at g f) q × IsOf (patch_at g f) r × (area_of (patch_at g f) p q r ≢ pos 0)
          → (c : ℕ) × IsOf (patch_at g f) c × (pos 0 <ℤ wedge (first_of g s f within v) (second_of g s f within v) v a b c)
      by (p, q, r, op, oq, o, apart) =
          ⊎_elim (λ ep. ⊎_elim (λ eq. ⊎_elim (λ er. absurd (n (level_same a b p q r oa ob op oq o (λ e. apart (area_wedge g s f within v p q r op oq o ∙ e)) ep eq er)))
          (found r o) (zero_or (wedge X Y v a b r))) (found q oq) (zero_or (wedge X Y v a b q))) (found p op) (zero_or (wedge X Y v a b p))
        where
          found : (c : ℕ) → IsOf (patch_at g f) c → wedge X Y v a b c ≢ pos 0 → (c : ℕ) × IsOf (patch_at g f) c × (pos 0 <ℤ wedge (first_of g s f within v) (second_of g s f within v) v a b c)
          found c oc k = (c, oc, above_zero (wedge X Y v a b c) (outer c oc) k)

  -- ---- steps and lower triples

  -- to the right is not to the left
  negative_turn : (z : ℤ) → sign z ≡ negsuc 0 → z <ℤ pos 0
  negative_turn (pos zero) e = absurd (omega (arith, ints, e))
  negative_turn (pos (suc n)) e = absurd (omega (arith, ints, e))
  negative_turn (negsuc n) e = omega (arith, ints)

  module _ (generic : IsGeneric g.points v) where
    below : (p : ℕ) → On p → p < suc (length g.points)
    below p o = (let n = point_within g s f within p o in let l = n.1 in omega (arith, l))

    outer_wedge : (a b : ℕ) → On a → On b → ((p : ℕ) → On p → turn (patch_at g f) a b p ≢ negsuc 0) → (p : ℕ) → On p → pos 0 ≤ℤ wedge X Y v a b p
    outer_wedge a b oa ob outer p o =
        ⊎_elim (λ l. absurd (outer p o (sign_negative (area_of (patch_at g f) a b p) (subst (λ z. z <ℤ pos 0) (sym (area_wedge g s f within v a b p oa ob o)) l)))) (λ h. h) (negative_or (wedge X Y v a b p))

    pub step_triple : (a b : ℕ) → IsStep (patch_at g f) a b → (c : ℕ) × IsBelowFace g s f within v a b c
    step_triple a b step =
        let outer = outer_wedge a b step.points.0 step.points.1 step.outer in
        let c = some_left a b step.points.0 step.points.1 step.points.2 outer in
        step_lower X Y v (IsOf (patch_at g f)) (never_level g s f within v generic) (decide_listed (spot_numbers (patch_at g f))) (suc (length g.points)) below a b step.points.0 step.points.1 outer line c.0 c.1 c.2
      where
        line : (c p : ℕ) → On c → pos 0 <ℤ wedge X Y v a b c → On p → p ≢ a → p ≢ b → wedge X Y v a b p ≡ pos 0 → pos 0 <ℤ lift X Y v a b c p
        line c p oc left op pa pb level =
            above_zero (lift X Y v a b c p) (line_over a b c p step.points.0 step.points.1 oc op left pa pb level (step.next p op pa pb))
            (never_level g s f within v generic a b c p step.points.0 step.points.1 oc op (λ e. positive_some (wedge X Y v a b c) left e) pa pb (λ e. positive_some (wedge X Y v a b c) left (ap (wedge X Y v a b) (sym e) ∙ level)))

    pub lower_step : (a b c : ℕ) → IsBelowFace g s f within v a b c → ((d : ℕ) → ¬ (IsBelowFace g s f within v b a d)) → IsStep (patch_at g f) a b
    lower_step a b c l alone = record {
      points = (l.points.0, l.points.1, apart);
      outer = λ p o e. (let d = reverse_lower X Y v (IsOf (patch_at g f)) (never_level g s f within v generic) (decide_listed (spot_numbers (patch_at g f))) (suc (length g.points)) below a b c l p o (beyond p o e) in alone d.0 d.1);
      next = no_between a b c l;
    }
      where
        apart : a ≢ b
        apart = (left_apart X Y v (IsOf (patch_at g f)) b c a (subst (λ z. pos 0 <ℤ z) (sym (wedge_turn X Y v a b c)) l.left)).0

        turned : (y z : ℤ) → y ≡ neg_ℤ z → z <ℤ pos 0 → pos 0 <ℤ y
        turned y z e h = omega (arith, ints, e, h)

        beyond : (p : ℕ) → On p → turn (patch_at g f) a b p ≡ negsuc 0 → pos 0 <ℤ wedge X Y v b a p
        beyond p o e =
            turned (wedge X Y v b a p) (wedge X Y v a b p) (wedge_swap X Y v a b p)
            (subst (λ z. z <ℤ pos 0) (area_wedge g s f within v a b p l.points.0 l.points.1 o) (negative_turn (area_of (patch_at g f) a b p) e))

    -- a step has no lower triple on its other side
    pub step_alone : (a b : ℕ) → IsStep (patch_at g f) a b → (d : ℕ) → ¬ (IsBelowFace g s f within v b a d)
    step_alone a b step d l = no (wedge X Y v b a d) (wedge X Y v a b d) (wedge_swap X Y v a b d) l.left (outer_wedge a b step.points.0 step.points.1 step.outer d l.points.2)
      where
        no : (y z : ℤ) → y ≡ neg_ℤ z → pos 0 <ℤ y → pos 0 ≤ℤ z → ⊥
        no y z e h k = absurd (omega (arith, ints, e, h, k))
