-- Where every point of a two-face is used, a triple below all others has no other point in it, and so it is unit.
--     empty_triple      no other point is in it
--     lower_unit      it is unit: else some fraction of its sides would lead to a point in it
use Rattle.std.proofs.Common.{◌≡◌, ◌≢◌, ℕ, ◌+◌, ◌*◌, ◌<◌, ◌⊎◌, inl, inr, ⊎_elim, refl, sym, ap, ◌∙◌, subst, arith, ℤ, pos, negsuc, ◌+ℤ◌, ◌-ℤ◌, ◌*ℤ◌, ◌<ℤ◌, ◌≤ℤ◌, neg_ℤ, [], ◌∷◌, length}
use Rattle.std.proofs.lemmas.Int.{ints}
use Rattle.std.proofs.Math.Nat.{div-add-mod, mod-lt}
use Rattle.std.specs.Prelude.{◌/◌, ◌%◌}
use Rattle.ntfe_nums.specs.Vectors.{Vector, vector_sum, difference, multiple, coordinate}
use Rattle.ntfe_nums.proofs.Ring.{ring}
use Rattle.ntfe_nums.proofs.Ring.Expression.{var, num, plus, minus, times}
use Rattle.ntfe_model.specs.Points.{place_of_point}
use Rattle.ntfe_model.specs.Shapes.{Shape, IsShape}
use Rattle.ntfe_model.specs.Charts.{patch_at, axes, place, reached, IsOf, IsUnit}
use Rattle.ntfe_model.proofs.GeometryPoints.{point_within, point_place}
use Rattle.ntfe_model.proofs.PlaneNumbers.{cancel_other, sign_positive}
use Rattle.ntfe_model.proofs.UnitTriples.{area_of}
use Rattle.star_builder.proofs.FourWeights.{IsMixOf}
use Rattle.star_builder.proofs.FacePlanes.{rotated, first_of, second_of, area_wedge, coordinate_mix, wedge_weight, wedge_sum, plane_mix}
use Rattle.star_builder.proofs.FaceSimplices.{IsBelowFace}
use Rattle.star_builder.proofs.MixedPoints.{mixed_point}
use Rattle.star_builder.proofs.Planar.{wedge, wedge_turn, wedge_outer, wedge_last}
use Rattle.ntfe_nums.proofs.Signs.{negative_or, same_or, positive_some, zero_minus}
use Rattle.star_builder.proofs.UsedPoints.{IsUsed, three_weights, used_below}

-- ---- fractions

-- a whole multiple of k and a rest below k
pub record IsParted (k z : ℤ) : Type 0 where
  pub quotient : ℤ
  pub rest : ℤ
  pub is : z ≡ quotient *ℤ k +ℤ rest
  pub low : pos 0 ≤ℤ rest
  pub high : rest <ℤ k

parted_nat : (m n : ℕ) → 0 < m → IsParted (pos m) (pos n)
parted_nat m n l = by (n / m) (n % m) (div-add-mod n m) (mod-lt n l)
  where
    by : (q r : ℕ) → m * q + r ≡ n → r < m → IsParted (pos m) (pos n)
    by q r e h = record { quotient = pos q; rest = pos r; is = sum (m * q) (pos q *ℤ pos m) (omega (arith, ints)) e; low = omega (arith, ints); high = omega (arith, ints, h) }
      where
        sum : (x : ℕ) (y : ℤ) → y ≡ pos x → x + r ≡ n → pos n ≡ y +ℤ pos r
        sum x y i e = omega (arith, ints, i, e)

pub parted : (k z : ℤ) → pos 0 <ℤ k → IsParted k z
parted (pos m) (pos n) l = parted_nat m n (omega (arith, ints, l))
parted (negsuc m) z l = absurd (omega (arith, ints, l))
parted (pos m) (negsuc n) l = by (parted_nat m n (omega (arith, ints, l)))
  where
    by : IsParted (pos m) (pos n) → IsParted (pos m) (negsuc n)
    by p = record {
      quotient = neg_ℤ p.quotient -ℤ pos 1;
      rest = pos m -ℤ pos 1 -ℤ p.rest;
      is = turned (p.quotient *ℤ pos m) p.rest p.is ∙ ring (p.quotient ∷ pos m ∷ p.rest ∷ [])
          (minus (minus (minus (num (pos 0)) (times (var 0) (var 1))) (var 2)) (num (pos 1)))
          (plus (times (minus (minus (num (pos 0)) (var 0)) (num (pos 1))) (var 1)) (minus (minus (var 1) (num (pos 1))) (var 2))) refl
          ∙ (λ i. (zero_minus p.quotient i -ℤ pos 1) *ℤ pos m +ℤ (pos m -ℤ pos 1 -ℤ p.rest));
      low = (let h = p.high in omega (arith, ints, h));
      high = (let h = p.low in omega (arith, ints, h));
    }
      where
        turned : (x r : ℤ) → pos n ≡ x +ℤ r → negsuc n ≡ pos 0 -ℤ x -ℤ r -ℤ pos 1
        turned x r e = omega (arith, ints, e)

-- ---- combinations in one coordinate

-- without whole multiples of the sides
fraction_number : (k x y z s t p a b c l2 l3 o : ℤ) → k *ℤ p ≡ x *ℤ a +ℤ (y *ℤ b +ℤ (z *ℤ c +ℤ pos 0 *ℤ o)) → k ≡ x +ℤ (y +ℤ z) → y ≡ s *ℤ k +ℤ l2 → z ≡ t *ℤ k +ℤ l3
    → k *ℤ (p -ℤ (s *ℤ (b -ℤ a) +ℤ t *ℤ (c -ℤ a))) ≡ (k -ℤ l2 -ℤ l3) *ℤ a +ℤ (l2 *ℤ b +ℤ (l3 *ℤ c +ℤ pos 0 *ℤ o))
fraction_number k x y z s t p a b c l2 l3 o m e ey ez =
    ring (k ∷ s ∷ t ∷ p ∷ a ∷ b ∷ c ∷ l2 ∷ l3 ∷ [])
    (times (var 0) (minus (var 3) (plus (times (var 1) (minus (var 5) (var 4))) (times (var 2) (minus (var 6) (var 4))))))
    (plus (minus (minus (times (var 0) (var 3)) (times (plus (times (var 1) (var 0)) (var 7)) (minus (var 5) (var 4)))) (times (plus (times (var 2) (var 0)) (var 8)) (minus (var 6) (var 4))))
    (plus (times (var 7) (minus (var 5) (var 4))) (times (var 8) (minus (var 6) (var 4))))) refl
    ∙ (λ i. (m i -ℤ sym ey i *ℤ (b -ℤ a)) -ℤ sym ez i *ℤ (c -ℤ a) +ℤ (l2 *ℤ (b -ℤ a) +ℤ l3 *ℤ (c -ℤ a)))
    ∙ ring (x ∷ y ∷ z ∷ a ∷ b ∷ c ∷ o ∷ l2 ∷ l3 ∷ [])
    (plus (minus (minus (plus (times (var 0) (var 3)) (plus (times (var 1) (var 4)) (plus (times (var 2) (var 5)) (times (num (pos 0)) (var 6))))) (times (var 1) (minus (var 4) (var 3)))) (times (var 2) (minus (var 5) (var 3))))
    (plus (times (var 7) (minus (var 4) (var 3))) (times (var 8) (minus (var 5) (var 3)))))
    (plus (times (minus (minus (plus (var 0) (plus (var 1) (var 2))) (var 7)) (var 8)) (var 3)) (plus (times (var 7) (var 4)) (plus (times (var 8) (var 5)) (times (num (pos 0)) (var 6))))) refl
    ∙ (λ i. (sym e i -ℤ l2 -ℤ l3) *ℤ a +ℤ (l2 *ℤ b +ℤ (l3 *ℤ c +ℤ pos 0 *ℤ o)))

-- the vector across the middle of b and c
across_number : (k l1 l2 l3 u a b c o : ℤ) → k ≡ l1 +ℤ (l2 +ℤ l3) → k *ℤ u ≡ l1 *ℤ a +ℤ (l2 *ℤ b +ℤ (l3 *ℤ c +ℤ pos 0 *ℤ o))
    → k *ℤ (b +ℤ c -ℤ u) ≡ (l2 +ℤ l3 -ℤ k) *ℤ a +ℤ ((k -ℤ l2) *ℤ b +ℤ ((k -ℤ l3) *ℤ c +ℤ pos 0 *ℤ o))
across_number k l1 l2 l3 u a b c o e m =
    ring (k ∷ b ∷ c ∷ u ∷ []) (times (var 0) (minus (plus (var 1) (var 2)) (var 3))) (minus (plus (times (var 0) (var 1)) (times (var 0) (var 2))) (times (var 0) (var 3))) refl
    ∙ (λ i. k *ℤ b +ℤ k *ℤ c -ℤ m i)
    ∙ ring (k ∷ l1 ∷ l2 ∷ l3 ∷ a ∷ b ∷ c ∷ o ∷ [])
    (minus (plus (times (var 0) (var 5)) (times (var 0) (var 6))) (plus (times (var 1) (var 4)) (plus (times (var 2) (var 5)) (plus (times (var 3) (var 6)) (times (num (pos 0)) (var 7))))))
    (plus (times (minus (num (pos 0)) (var 1)) (var 4)) (plus (times (minus (var 0) (var 2)) (var 5)) (plus (times (minus (var 0) (var 3)) (var 6)) (times (num (pos 0)) (var 7))))) refl
    ∙ (λ i. first_is i *ℤ a +ℤ ((k -ℤ l2) *ℤ b +ℤ ((k -ℤ l3) *ℤ c +ℤ pos 0 *ℤ o)))
  where
    first_is : pos 0 -ℤ l1 ≡ l2 +ℤ l3 -ℤ k
    first_is = omega (arith, ints, e)

-- ---- triples of a two-face

module _ (g : Shape) (s : IsShape g) (f : ℕ) (within : f < length g.faces) (v : ℕ → ℤ) (used : (p : ℕ) → IsOf (patch_at g f) p → IsUsed g.points v p)
    (a b c : ℕ) (lower : IsBelowFace g s f within v a b c) where
  abbrev On : ℕ → Type 0
  On = IsOf (patch_at g f)

  abbrev spot : ℕ → Vector
  spot = place_of_point g.points

  abbrev wedged : ℕ → ℕ → ℕ → ℤ
  wedged = wedge (first_of g s f within v) (second_of g s f within v) v

  abbrev oa : On a
  oa = lower.points.0

  abbrev ob : On b
  ob = lower.points.1

  abbrev oc : On c
  oc = lower.points.2

  flat : wedged a b c ≢ pos 0
  flat e = positive_some (wedged a b c) lower.left e

  pub empty_triple : (p : ℕ) → On p → pos 0 ≤ℤ wedge (first_of g s f within v) (second_of g s f within v) v b c p → pos 0 ≤ℤ wedge (first_of g s f within v) (second_of g s f within v) v c a p
      → pos 0 ≤ℤ wedge (first_of g s f within v) (second_of g s f within v) v a b p → (p ≡ a) ⊎ ((p ≡ b) ⊎ (p ≡ c))
  empty_triple p op h1 h2 h3 = ⊎_elim inl (λ pa. ⊎_elim (λ e. inr (inl e)) (λ pb. ⊎_elim (λ e. inr (inr e)) (λ pc. absurd (none pa pb pc)) (same_or p c)) (same_or p b)) (same_or p a)
    where
      none : p ≢ a → p ≢ b → p ≢ c → ⊥
      none pa pb pc =
          clash (wedged a b c *ℤ v p) (wedged b c p *ℤ v a) (wedged c a p *ℤ v b) (wedged a b p *ℤ v c) (lower.above p op pa pb pc)
          (used_below g.points v p (used p op) a b c (point_within g s f within a oa) (point_within g s f within b ob) (point_within g s f within c oc)
          (wedged a b c) (wedged b c p) (wedged c a p) (wedged a b p) h1 h2 h3 (wedge_sum g s f within v a b c p) (spot p) (plane_mix g s f within v a b c oa ob oc flat p op (spot p)))
        where
          clash : (x y1 y2 y3 : ℤ) → pos 0 <ℤ (x -ℤ (y1 +ℤ y2 +ℤ y3)) → pos 0 ≤ℤ ((y1 +ℤ (y2 +ℤ y3)) -ℤ x) → ⊥
          clash x y1 y2 y3 i j = absurd (omega (arith, ints, i, j))

  -- the wedges of a combination are its weights
  module _ (l1 l2 l3 : ℤ) (size_is : wedged a b c ≡ l1 +ℤ (l2 +ℤ l3)) (p : ℕ) (mix : IsMixOf (three_weights (wedged a b c) l1 l2 l3) (spot a) (spot b) (spot c) (spot a) (spot p)) where
    abbrev X : ℕ → ℤ
    X = first_of g s f within v

    abbrev Y : ℕ → ℤ
    Y = second_of g s f within v

    in_coordinate : (i : ℕ) → wedged a b c *ℤ coordinate i (spot p) ≡ l1 *ℤ coordinate i (spot a) +ℤ (l2 *ℤ coordinate i (spot b) +ℤ l3 *ℤ coordinate i (spot c))
    in_coordinate i =
        coordinate_mix i (three_weights (wedged a b c) l1 l2 l3) (spot a) (spot b) (spot c) (spot a) (spot p) mix
        ∙ without_fourth (l1 *ℤ coordinate i (spot a)) (l2 *ℤ coordinate i (spot b)) (l3 *ℤ coordinate i (spot c)) (coordinate i (spot a))
      where
        without_fourth : (x y z u : ℤ) → x +ℤ (y +ℤ (z +ℤ pos 0 *ℤ u)) ≡ x +ℤ (y +ℤ z)
        without_fourth x y z u = omega (arith, ints)

    same : (w l : ℤ) → wedged a b c *ℤ w ≡ l *ℤ wedged a b c → w ≡ l
    same w l e = cancel_other w l (wedged a b c) flat (ring (w ∷ wedged a b c ∷ []) (times (var 0) (var 1)) (times (var 1) (var 0)) refl ∙ e)

    q0 : ℕ
    q0 = (axes (patch_at g f)).0

    q1 : ℕ
    q1 = (axes (patch_at g f)).1

    weight_first : wedged b c p ≡ l1
    unfolding q0 q1
    weight_first = same (wedged b c p) l1 (wedge_weight (wedged a b c) l1 l2 l3 (X a) (Y a) (X b) (Y b) (X c) (Y c) (X p) (Y p) size_is (in_coordinate q0) (in_coordinate q1))

    weight_second : wedged c a p ≡ l2
    unfolding q0 q1
    weight_second =
        same (wedged c a p) l2
        (wedge_weight (wedged a b c) l2 l3 l1 (X b) (Y b) (X c) (Y c) (X a) (Y a) (X p) (Y p) (rotated (wedged a b c) l1 l2 l3 size_is)
        (rotated _ (l1 *ℤ X a) (l2 *ℤ X b) (l3 *ℤ X c) (in_coordinate q0)) (rotated _ (l1 *ℤ Y a) (l2 *ℤ Y b) (l3 *ℤ Y c) (in_coordinate q1))
        ∙ ap (λ z. l2 *ℤ z) (wedge_turn X Y v a b c))

    weight_third : wedged a b p ≡ l3
    weight_third =
        by (wedged a b c) (wedged b c p) (wedged c a p) (wedged a b p) (wedge_sum g s f within v a b c p) weight_first weight_second size_is
      where
        by : (w w1 w2 w3 : ℤ) → w ≡ w1 +ℤ (w2 +ℤ w3) → w1 ≡ l1 → w2 ≡ l2 → w ≡ l1 +ℤ (l2 +ℤ l3) → w3 ≡ l3
        by w w1 w2 w3 e i j k = omega (arith, ints, e, i, j, k)

  -- a whole vector in the triple is a corner of it
  corner_of : (u : Vector) (l1 l2 l3 : ℤ) → pos 0 ≤ℤ l1 → pos 0 ≤ℤ l2 → pos 0 ≤ℤ l3 → wedged a b c ≡ l1 +ℤ (l2 +ℤ l3)
      → IsMixOf (three_weights (wedged a b c) l1 l2 l3) (spot a) (spot b) (spot c) (spot a) u
      → ((u ≡ spot a) × (l2 ≡ pos 0) × (l3 ≡ pos 0)) ⊎ ((l2 ≡ wedged a b c) ⊎ (l3 ≡ wedged a b c))
  corner_of u l1 l2 l3 h1 h2 h3 size_is mix = by (mixed_point g s f within a b c oa ob oc (wedged a b c) l1 l2 l3 lower.left h1 h2 h3 size_is u (spot a) mix)
    where
      by : (p : ℕ) × IsOf (patch_at g f) p × (place_of_point g.points p ≡ u) → ((u ≡ spot a) × (l2 ≡ pos 0) × (l3 ≡ pos 0)) ⊎ ((l2 ≡ wedged a b c) ⊎ (l3 ≡ wedged a b c))
      by (p, op, at) = at_corner (empty_triple p op (over (sym w1) h1) (over (sym w2) h2) (over (sym w3) h3))
        where
          moved : IsMixOf (three_weights (wedged a b c) l1 l2 l3) (spot a) (spot b) (spot c) (spot a) (spot p)
          moved = ap (multiple (wedged a b c)) at ∙ mix

          w1 : wedged b c p ≡ l1
          w1 = weight_first l1 l2 l3 size_is p moved

          w2 : wedged c a p ≡ l2
          w2 = weight_second l1 l2 l3 size_is p moved

          w3 : wedged a b p ≡ l3
          w3 = weight_third l1 l2 l3 size_is p moved

          over : {y z : ℤ} → y ≡ z → pos 0 ≤ℤ y → pos 0 ≤ℤ z
          over e h = subst (λ z. pos 0 ≤ℤ z) e h

          at_corner : (p ≡ a) ⊎ ((p ≡ b) ⊎ (p ≡ c)) → ((u ≡ spot a) × (l2 ≡ pos 0) × (l3 ≡ pos 0)) ⊎ ((l2 ≡ wedged a b c) ⊎ (l3 ≡ wedged a b c))
          at_corner (inl e) = inl (sym at ∙ ap spot e, sym w2 ∙ ap (wedged c a) e ∙ wedge_last (first_of g s f within v) (second_of g s f within v) v c a, sym w3 ∙ ap (wedged a b) e ∙ wedge_outer (first_of g s f within v) (second_of g s f within v) v a b)
          at_corner (inr (inl e)) = inr (inl (sym w2 ∙ ap (wedged c a) e ∙ sym (wedge_turn (first_of g s f within v) (second_of g s f within v) v c a b) ∙ refl))
          at_corner (inr (inr e)) = inr (inr (sym w3 ∙ ap (wedged a b) e))

  module _ (p : ℕ) (op : On p) where
    abbrev k : ℤ
    k = wedged a b c

    -- the whole multiples of the sides, and what is left
    along : IsParted k (wedged c a p)
    along = parted (wedged a b c) (wedged c a p) lower.left

    beside : IsParted k (wedged a b p)
    beside = parted (wedged a b c) (wedged a b p) lower.left

    abbrev left_over : Vector
    left_over = difference (spot p) (vector_sum (multiple along.quotient (difference (spot b) (spot a))) (multiple beside.quotient (difference (spot c) (spot a))))

    left_number : (p0 a0 b0 c0 : ℤ) → k *ℤ p0 ≡ wedged b c p *ℤ a0 +ℤ (wedged c a p *ℤ b0 +ℤ (wedged a b p *ℤ c0 +ℤ pos 0 *ℤ a0))
        → k *ℤ (p0 -ℤ (along.quotient *ℤ (b0 -ℤ a0) +ℤ beside.quotient *ℤ (c0 -ℤ a0))) ≡ (k -ℤ along.rest -ℤ beside.rest) *ℤ a0 +ℤ (along.rest *ℤ b0 +ℤ (beside.rest *ℤ c0 +ℤ pos 0 *ℤ a0))
    left_number p0 a0 b0 c0 e =
        fraction_number k (wedged b c p) (wedged c a p) (wedged a b p) along.quotient beside.quotient p0 a0 b0 c0 along.rest beside.rest a0 e (wedge_sum g s f within v a b c p) along.is beside.is

    left_mix : IsMixOf (three_weights k (k -ℤ along.rest -ℤ beside.rest) along.rest beside.rest) (spot a) (spot b) (spot c) (spot a) left_over
    left_mix =
        let m = plane_mix g s f within v a b c oa ob oc flat p op (spot a) in
        let e1 = left_number (spot p).x1 (spot a).x1 (spot b).x1 (spot c).x1 (ap (λ u. u.x1) m) in
        let e2 = left_number (spot p).x2 (spot a).x2 (spot b).x2 (spot c).x2 (ap (λ u. u.x2) m) in
        let e3 = left_number (spot p).x3 (spot a).x3 (spot b).x3 (spot c).x3 (ap (λ u. u.x3) m) in
        let e4 = left_number (spot p).x4 (spot a).x4 (spot b).x4 (spot c).x4 (ap (λ u. u.x4) m) in
        λ i. record { x1 = e1 i; x2 = e2 i; x3 = e3 i; x4 = e4 i }

    left_sum : k ≡ (k -ℤ along.rest -ℤ beside.rest) +ℤ (along.rest +ℤ beside.rest)
    left_sum = by k along.rest beside.rest
      where
        by : (x y z : ℤ) → x ≡ (x -ℤ y -ℤ z) +ℤ (y +ℤ z)
        by x y z = omega (arith, ints)

    back_number : (p0 a0 b0 c0 : ℤ) → p0 -ℤ (along.quotient *ℤ (b0 -ℤ a0) +ℤ beside.quotient *ℤ (c0 -ℤ a0)) ≡ a0 → p0 ≡ a0 +ℤ (along.quotient *ℤ (b0 -ℤ a0) +ℤ beside.quotient *ℤ (c0 -ℤ a0))
    back_number p0 a0 b0 c0 e = by (along.quotient *ℤ (b0 -ℤ a0) +ℤ beside.quotient *ℤ (c0 -ℤ a0)) e
      where
        by : (d : ℤ) → p0 -ℤ d ≡ a0 → p0 ≡ a0 +ℤ d
        by d e = omega (arith, ints, e)

    reached_from : left_over ≡ spot a → spot p ≡ reached (spot a) (spot b) (spot c) along.quotient beside.quotient
    reached_from e =
        let e1 = back_number (spot p).x1 (spot a).x1 (spot b).x1 (spot c).x1 (ap (λ u. u.x1) e) in
        let e2 = back_number (spot p).x2 (spot a).x2 (spot b).x2 (spot c).x2 (ap (λ u. u.x2) e) in
        let e3 = back_number (spot p).x3 (spot a).x3 (spot b).x3 (spot c).x3 (ap (λ u. u.x3) e) in
        let e4 = back_number (spot p).x4 (spot a).x4 (spot b).x4 (spot c).x4 (ap (λ u. u.x4) e) in
        λ i. record { x1 = e1 i; x2 = e2 i; x3 = e3 i; x4 = e4 i }

    less : (y z : ℤ) → y <ℤ z → y ≡ z → ⊥
    less y z l e = absurd (omega (arith, ints, l, e))

    -- what is left is in the triple, so it is a
    near : pos 0 ≤ℤ (k -ℤ along.rest -ℤ beside.rest) → left_over ≡ spot a
    near h =
        ⊎_elim (λ r. r.0) (λ q. absurd (⊎_elim (less along.rest k along.high) (less beside.rest k beside.high) q))
        (corner_of left_over (k -ℤ along.rest -ℤ beside.rest) along.rest beside.rest h along.low beside.low left_sum left_mix)

    -- else the vector across the middle is in the triple, and no corner
    far : (k -ℤ along.rest -ℤ beside.rest) <ℤ pos 0 → ⊥
    far h =
        ⊎_elim (λ r. no_room k along.rest along.high r.1) (λ q. ⊎_elim (whole k along.rest beside.rest h beside.high) (λ e. whole k beside.rest along.rest (turned k along.rest beside.rest h) along.high e) q)
        (corner_of mirror (along.rest +ℤ beside.rest -ℤ k) (k -ℤ along.rest) (k -ℤ beside.rest) (over k along.rest beside.rest h) (room k along.rest along.high) (room k beside.rest beside.high)
        (sums k along.rest beside.rest) mirror_mix)
      where
        mirror : Vector
        mirror = difference (vector_sum (spot b) (spot c)) left_over

        mirror_number : (u0 a0 b0 c0 : ℤ) → k *ℤ u0 ≡ (k -ℤ along.rest -ℤ beside.rest) *ℤ a0 +ℤ (along.rest *ℤ b0 +ℤ (beside.rest *ℤ c0 +ℤ pos 0 *ℤ a0))
            → k *ℤ (b0 +ℤ c0 -ℤ u0) ≡ (along.rest +ℤ beside.rest -ℤ k) *ℤ a0 +ℤ ((k -ℤ along.rest) *ℤ b0 +ℤ ((k -ℤ beside.rest) *ℤ c0 +ℤ pos 0 *ℤ a0))
        mirror_number u0 a0 b0 c0 e = across_number k (k -ℤ along.rest -ℤ beside.rest) along.rest beside.rest u0 a0 b0 c0 a0 left_sum e

        mirror_mix : IsMixOf (three_weights k (along.rest +ℤ beside.rest -ℤ k) (k -ℤ along.rest) (k -ℤ beside.rest)) (spot a) (spot b) (spot c) (spot a) (difference (vector_sum (spot b) (spot c)) left_over)
        mirror_mix =
            let e1 = mirror_number left_over.x1 (spot a).x1 (spot b).x1 (spot c).x1 (ap (λ u. u.x1) left_mix) in
            let e2 = mirror_number left_over.x2 (spot a).x2 (spot b).x2 (spot c).x2 (ap (λ u. u.x2) left_mix) in
            let e3 = mirror_number left_over.x3 (spot a).x3 (spot b).x3 (spot c).x3 (ap (λ u. u.x3) left_mix) in
            let e4 = mirror_number left_over.x4 (spot a).x4 (spot b).x4 (spot c).x4 (ap (λ u. u.x4) left_mix) in
            λ i. record { x1 = e1 i; x2 = e2 i; x3 = e3 i; x4 = e4 i }

        over : (x y z : ℤ) → (x -ℤ y -ℤ z) <ℤ pos 0 → pos 0 ≤ℤ (y +ℤ z -ℤ x)
        over x y z l = omega (arith, ints, l)

        turned : (x y z : ℤ) → (x -ℤ y -ℤ z) <ℤ pos 0 → (x -ℤ z -ℤ y) <ℤ pos 0
        turned x y z l = omega (arith, ints, l)

        room : (x y : ℤ) → y <ℤ x → pos 0 ≤ℤ (x -ℤ y)
        room x y l = omega (arith, ints, l)

        no_room : (x y : ℤ) → y <ℤ x → x -ℤ y ≡ pos 0 → ⊥
        no_room x y l e = absurd (omega (arith, ints, l, e))

        whole : (x y z : ℤ) → (x -ℤ y -ℤ z) <ℤ pos 0 → z <ℤ x → x -ℤ y ≡ x → ⊥
        whole x y z l h e = absurd (omega (arith, ints, l, h, e))

        sums : (x y z : ℤ) → x ≡ (y +ℤ z -ℤ x) +ℤ ((x -ℤ y) +ℤ (x -ℤ z))
        sums x y z = omega (arith, ints)

    triple_reaches : spot p ≡ reached (spot a) (spot b) (spot c) along.quotient beside.quotient
    triple_reaches = reached_from (⊎_elim (λ h. absurd (far h)) near (negative_or (k -ℤ along.rest -ℤ beside.rest)))

  place_is : (p : ℕ) → On p → place (patch_at g f) p ≡ spot p
  place_is p o = point_place g s f within p o

  pub lower_unit : IsUnit (patch_at g f) a b c
  lower_unit = record {
    points = lower.points;
    left = sign_positive (area_of (patch_at g f) a b c)
        (subst (λ z. pos 0 <ℤ z) (sym (area_wedge g s f within v a b c oa ob oc)) lower.left);
    reaches = λ p o. (
      (along p o).quotient,
      (beside p o).quotient,
      place_is p o ∙ triple_reaches p o
          ∙ (λ i. reached (sym (place_is a oa) i) (sym (place_is b ob) i) (sym (place_is c oc) i) (along p o).quotient (beside p o).quotient),
    );
  }
