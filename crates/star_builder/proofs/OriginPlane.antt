-- The plane through the origin and a member of a star, for the height at the origin that is below all others by far.
--     origin_plane_low      it lies strictly below each point outside the member's facet
-- The facet's form is -1 on the four points and not negative on the point p. So in size p = l1 a + l2 b + l3 c + l4 d the multipliers have
-- a sum that is not positive, and the origin's share, size less that sum, is at least 1. This share of the origin's height outweighs
-- the five other terms, since the size and the multipliers are determinants of small vectors.
use Rattle.std.proofs.Common.{◌≡◌, ℕ, zero, suc, ◌+◌, ◌-◌, ◌*◌, ◌^◌, ◌<◌, ◌≤◌, refl, ◌∙◌, arith, ℤ, pos, negsuc, ◌+ℤ◌, ◌-ℤ◌, ◌*ℤ◌, ◌<ℤ◌, ◌≤ℤ◌, List, [], ◌∷◌, get_or, length, unsigned_abs, mul-le-mul}
use Rattle.std.proofs.lemmas.Int.{ints, unsigned_abs-mul}
use Rattle.ntfe_nums.specs.Vectors.{Vector, origin, dot, det4, AreLinearlyIndependent}
use Rattle.ntfe_nums.proofs.Ring.{ring}
use Rattle.ntfe_nums.proofs.Ring.Expression.{var, num, plus, minus, times}
use Rattle.ntfe_model.specs.Lists.{IsNumberOf}
use Rattle.ntfe_model.specs.Pairs.{IsSmall, entry}
use Rattle.ntfe_model.specs.Points.{place_of_point}
use Rattle.ntfe_model.specs.Reflexive.{IsTight}
use Rattle.ntfe_model.specs.Shapes.{Shape, IsShape}
use Rattle.ntfe_model.specs.Choices.{height}
use Rattle.ntfe_model.specs.Stars.{IsMember, AreIn, IsAboveOriginPlane, greatest_size, origin_height}
use Rattle.star_builder.specs.declared.four.Four.{Four}
use Rattle.star_builder.proofs.FourWeights.{Weights, dot_mix}
use Rattle.star_builder.proofs.MemberLemmas.{has_first, has_second, has_third, has_fourth, same_first, same_second, same_third, same_fourth, member_independent}
use Rattle.star_builder.proofs.MemberPlanes.{size_positive}
use Rattle.star_builder.proofs.Combinations.{turned, combination_exists}
use Rattle.ntfe_nums.proofs.Signs.{product_not_negative, product_not_positive, not_negative}
use Rattle.star_builder.proofs.VertexPoints.{number_point, point_small}
use Rattle.star_builder.proofs.WholeHeights.{volume_bound, volume_small}

-- ---- sizes

height_small : (w : List ℤ) (i : ℕ) → unsigned_abs (get_or w i (pos 0)) ≤ greatest_size w
height_small [] i = omega arith
height_small (z ∷ zs) zero = omega arith
height_small (z ∷ zs) (suc i) = omega (arith, height_small zs i)

turned_small : (t z : ℤ) (bound : ℕ) → unsigned_abs z ≤ bound → unsigned_abs (turned t z) ≤ bound
turned_small (pos n) z bound l = l
turned_small (negsuc n) z bound l = omega (arith, ints, l)

-- a multiplier times a height
term_small : (l h : ℤ) (bound most : ℕ) → unsigned_abs l ≤ bound → unsigned_abs h ≤ most → unsigned_abs (l *ℤ h) ≤ bound * most
term_small l h bound most p q = rw (unsigned_abs-mul l h) (mul-le-mul p q)

-- a positive share of a height that is not positive is no higher
share_low : (u h : ℤ) → pos 0 <ℤ u → h ≤ℤ pos 0 → (u *ℤ h) ≤ℤ h
share_low u h l k =
    by (u *ℤ h) ((u -ℤ pos 1) *ℤ h) (product_not_positive (u -ℤ pos 1) h (omega (arith, ints, l)) k)
    (ring (u ∷ h ∷ []) (times (var 0) (var 1)) (plus (times (minus (var 0) (num (pos 1))) (var 1)) (var 1)) refl)
  where
    by : (x y : ℤ) → y ≤ℤ pos 0 → x ≡ y +ℤ h → x ≤ℤ h
    by x y n e = omega (arith, ints, n, e)

-- the origin's height outweighs five terms
outweighed : (x1 x2 x3 x4 y z : ℤ) (most : ℕ) → unsigned_abs x1 ≤ volume_bound * most → unsigned_abs x2 ≤ volume_bound * most → unsigned_abs x3 ≤ volume_bound * most
    → unsigned_abs x4 ≤ volume_bound * most → unsigned_abs y ≤ volume_bound * most → z ≤ℤ negsuc (most * (2 ^ 47 + 1)) → (x1 +ℤ x2 +ℤ x3 +ℤ x4 +ℤ z) <ℤ y
outweighed x1 x2 x3 x4 y z most b1 b2 b3 b4 by bz = omega (arith, ints, b1, b2, b3, b4, by, bz)

-- ---- the multipliers of a point outside the facet

-- their sum is not positive
multipliers_low : (m : Weights) (u a b c d p : Vector) → m.k *ℤ dot u p ≡ m.l1 *ℤ dot u a +ℤ (m.l2 *ℤ dot u b +ℤ (m.l3 *ℤ dot u c +ℤ m.l4 *ℤ dot u d))
    → pos 0 <ℤ m.k → IsTight u a → IsTight u b → IsTight u c → IsTight u d → pos 0 ≤ℤ dot u p → (m.l1 +ℤ m.l2 +ℤ m.l3 +ℤ m.l4) ≤ℤ pos 0
multipliers_low m u a b c d p e l ta tb tc td h =
    by (m.k *ℤ dot u p) m.l1 m.l2 m.l3 m.l4 (product_not_negative m.k (dot u p) (not_negative m.k l) h)
    (e ∙ (λ i. m.l1 *ℤ ta i +ℤ (m.l2 *ℤ tb i +ℤ (m.l3 *ℤ tc i +ℤ m.l4 *ℤ td i))))
  where
    by : (x l1 l2 l3 l4 : ℤ) → pos 0 ≤ℤ x → x ≡ l1 *ℤ negsuc 0 +ℤ (l2 *ℤ negsuc 0 +ℤ (l3 *ℤ negsuc 0 +ℤ l4 *ℤ negsuc 0)) → (l1 +ℤ l2 +ℤ l3 +ℤ l4) ≤ℤ pos 0
    by x l1 l2 l3 l4 q f = omega (arith, ints, q, f)

-- ---- the law

module _ (g : Shape) (w : List ℤ) (order : List ℕ) (a b c d p facet : ℕ) (s : IsShape g) (member : IsMember g.pair.dual g.points w order (a ∷ b ∷ c ∷ d ∷ []))
    (within : AreIn g.pair.dual g.points facet (a ∷ b ∷ c ∷ d ∷ [])) (number : IsNumberOf g.points p)
    (outside : ¬ (IsTight (entry g.pair.dual facet) (place_of_point g.points p))) where
  abbrev four : Four
  four = record { a = a; b = b; c = c; d = d }

  abbrev place : ℕ → Vector
  place = place_of_point g.points

  abbrev form : Vector
  form = entry g.pair.dual facet

  -- the numbers are those of points
  numbers : IsNumberOf g.points a × IsNumberOf g.points b × IsNumberOf g.points c × IsNumberOf g.points d
  numbers =
      let e = same_first g.pair.dual g.points w order four member in
      let f = same_second g.pair.dual g.points w order four member in
      let h = same_third g.pair.dual g.points w order four member in
      let k = same_fourth g.pair.dual g.points w order four member in
      rising (length g.points) member.a member.b member.c member.d e f h k member.ordered
    where
      rising : (n i j k l : ℕ) → i ≡ a → j ≡ b → k ≡ c → l ≡ d → ((1 ≤ i) × (i ≤ n)) × (i < j) × (j < k) × (k < l) × ((1 ≤ l) × (l ≤ n))
          → ((1 ≤ a) × (a ≤ n)) × ((1 ≤ b) × (b ≤ n)) × ((1 ≤ c) × (c ≤ n)) × ((1 ≤ d) × (d ≤ n))
      rising n i j k l ei ej ek el o =
          let low = o.0.0 in
          let ij = o.1 in
          let jk = o.2 in
          let kl = o.3 in
          let high = o.4.1 in
          ((omega (arith, ei, low), omega (arith, ei, ij, jk, kl, high)), (omega (arith, ej, low, ij), omega (arith, ej, jk, kl, high)), (omega (arith, ek, low, ij, jk), omega (arith, ek, kl, high)), (omega (arith, el, low, ij, jk, kl), omega (arith, el, high)))

  independent : AreLinearlyIndependent (place a) (place b) (place c) (place d)
  independent = member_independent g.pair.dual g.points w order four member

  p_over : pos 0 ≤ℤ dot form (place p)
  p_over =
      by (dot form (place p)) ((number_point g s p number).inside.hull (facet - 1) origin (let n = within.0 in let k = n.0 in let l = n.1 in omega (arith, k, l))) outside
    where
      by : (z : ℤ) → negsuc 0 ≤ℤ z → ¬ (z ≡ negsuc 0) → pos 0 ≤ℤ z
      by (pos n) l o = omega (arith, ints)
      by (negsuc zero) l o = absurd (o refl)
      by (negsuc (suc n)) l o = absurd (omega (arith, ints, l))

  abbrev volume : ℤ
  volume = det4 (place a) (place b) (place c) (place d)

  -- the multipliers of p by Cramer's rule
  abbrev weights : Weights
  weights = record {
    k = pos (unsigned_abs volume);
    l1 = turned volume (det4 (place p) (place b) (place c) (place d));
    l2 = turned volume (det4 (place a) (place p) (place c) (place d));
    l3 = turned volume (det4 (place a) (place b) (place p) (place d));
    l4 = turned volume (det4 (place a) (place b) (place c) (place p));
  }

  sum_low : (weights.l1 +ℤ weights.l2 +ℤ weights.l3 +ℤ weights.l4) ≤ℤ pos 0
  sum_low =
      multipliers_low weights form (place a) (place b) (place c) (place d) (place p)
      (dot_mix form weights (place a) (place b) (place c) (place d) (place p) (combination_exists g.points a b c d p).mix)
      (size_positive volume weights.k independent refl)
      (within.1 a (has_first four)) (within.1 b (has_second four)) (within.1 c (has_third four)) (within.1 d (has_fourth four)) p_over

  -- a multiplier times a height is small
  term : (l : ℤ) (k : ℕ) → unsigned_abs l ≤ volume_bound → unsigned_abs (l *ℤ height w k) ≤ volume_bound * greatest_size w
  term l k q = term_small l (height w k) volume_bound (greatest_size w) q (height_small w (k - 1))

  below : (weights.l1 *ℤ height w a +ℤ weights.l2 *ℤ height w b +ℤ weights.l3 *ℤ height w c +ℤ weights.l4 *ℤ height w d
      +ℤ (weights.k -ℤ (weights.l1 +ℤ weights.l2 +ℤ weights.l3 +ℤ weights.l4)) *ℤ origin_height w) <ℤ (weights.k *ℤ height w p)
  below =
      let sa = point_small g s a numbers.0 in
      let sb = point_small g s b numbers.1 in
      let sc = point_small g s c numbers.2 in
      let sd = point_small g s d numbers.3 in
      let sp = point_small g s p number in
      let multiplier : (x y z v : ℕ) → IsSmall (place x) → IsSmall (place y) → IsSmall (place z) → IsSmall (place v) → unsigned_abs (turned volume (det4 (place x) (place y) (place z) (place v))) ≤ volume_bound
      = λ x y z v sx sy sz sv. turned_small volume (det4 (place x) (place y) (place z) (place v)) volume_bound (volume_small (place x) (place y) (place z) (place v) sx sy sz sv) in
      outweighed (weights.l1 *ℤ height w a) (weights.l2 *ℤ height w b) (weights.l3 *ℤ height w c) (weights.l4 *ℤ height w d) (weights.k *ℤ height w p)
      ((weights.k -ℤ (weights.l1 +ℤ weights.l2 +ℤ weights.l3 +ℤ weights.l4)) *ℤ origin_height w) (greatest_size w)
      (term weights.l1 a (multiplier p b c d sp sb sc sd)) (term weights.l2 b (multiplier a p c d sa sp sc sd))
      (term weights.l3 c (multiplier a b p d sa sb sp sd)) (term weights.l4 d (multiplier a b c p sa sb sc sp))
      (term weights.k p (volume_small (place a) (place b) (place c) (place d) sa sb sc sd))
      (share_low (weights.k -ℤ (weights.l1 +ℤ weights.l2 +ℤ weights.l3 +ℤ weights.l4)) (origin_height w) (share weights.k (weights.l1 +ℤ weights.l2 +ℤ weights.l3 +ℤ weights.l4) (size_positive volume weights.k independent refl) sum_low) (negative (greatest_size w * (2 ^ 47 + 1))))
    where
      share : (k l : ℤ) → pos 0 <ℤ k → l ≤ℤ pos 0 → pos 0 <ℤ (k -ℤ l)
      share k l h q = omega (arith, ints, h, q)

      negative : (n : ℕ) → negsuc n ≤ℤ pos 0
      negative n = omega (arith, ints)

  pub origin_plane_low : IsAboveOriginPlane g.points w (origin_height w) a b c d p
  origin_plane_low = record { l1 = weights.l1; l2 = weights.l2; l3 = weights.l3; l4 = weights.l4; size = weights.k; combination = combination_exists g.points a b c d p; above = below }
