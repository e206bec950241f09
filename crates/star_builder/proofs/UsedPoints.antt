-- A point that a low simplex uses lies no higher than any combination of other points in its place.
--     IsUsed      the point is the last of a low simplex of some facet
--     used_below      its height, and those of three points that mix to it
use Rattle.std.proofs.Common.{◌≡◌, ℕ, ⊎_elim, refl, sym, ap, ◌∙◌, subst, arith, ℤ, pos, negsuc, ◌+ℤ◌, ◌-ℤ◌, ◌*ℤ◌, ◌≤ℤ◌, List, [], ◌∷◌}
use Rattle.std.proofs.lemmas.Int.{ints}
use Rattle.ntfe_nums.specs.Vectors.{Vector, dot, multiple}
use Rattle.ntfe_nums.proofs.Ring.{ring}
use Rattle.ntfe_nums.proofs.Ring.Expression.{var, num, plus, minus, times}
use Rattle.ntfe_model.specs.Lists.{IsNumberOf}
use Rattle.ntfe_model.specs.Reflexive.{IsTight}
use Rattle.ntfe_model.specs.Points.{place_of_point}
use Rattle.ntfe_model.specs.declared.point.Point.{Point}
use Rattle.ntfe_model.proofs.PlaneNumbers.{zero_factor}
use Rattle.star_builder.proofs.FourWeights.{Weights, IsMixOf, dot_mix}
use Rattle.star_builder.proofs.LowSimplices.{IsLow}
use Rattle.star_builder.proofs.Rises.{gap, gap_multiple, rise, rise_gap, rise_first, rise_second, rise_third, rise_fourth, through, volume}
use Rattle.ntfe_nums.proofs.Signs.{factor_not_negative, product_not_negative, same_or, square_positive, zero_out, not_negative, zero_not_negative}

-- the weights of three points that mix to a fourth
abbrev pub three_weights : ℤ → ℤ → ℤ → ℤ → Weights
three_weights k l1 l2 l3 = record { k = k; l1 = l1; l2 = l2; l3 = l3; l4 = pos 0 }

-- a linear form that is 0 on a low simplex, and not negative on its facet
module _ (xs : List Point) (v : ℕ → ℤ) (m : Vector) (a b c d : ℕ) (low : IsLow xs v m a b c d) where
  abbrev at : ℕ → Vector
  at = place_of_point xs

  abbrev det : ℤ
  det = volume at v a b c d

  pub low_over : (x : ℕ) → IsNumberOf xs x → IsTight m (place_of_point xs x) → pos 0 ≤ℤ (volume (place_of_point xs) v a b c d *ℤ rise (place_of_point xs) v a b c d x)
  low_over x n t =
      ⊎_elim (level a (rise_first at v a b c d)) (λ na.
      ⊎_elim (level b (rise_second at v a b c d)) (λ nb.
      ⊎_elim (level c (rise_third at v a b c d)) (λ nc.
      ⊎_elim (level d (rise_fourth at v a b c d)) (λ nd. not_negative (det *ℤ rise at v a b c d x) (low.above x n na nb nc nd t))
      (same_or x d)) (same_or x c)) (same_or x b)) (same_or x a)
    where
      level : (k : ℕ) → rise (place_of_point xs) v a b c d k ≡ pos 0 → x ≡ k → pos 0 ≤ℤ (volume (place_of_point xs) v a b c d *ℤ rise (place_of_point xs) v a b c d x)
      level k z e = zero_not_negative (det *ℤ rise at v a b c d x) (zero_out det (rise at v a b c d x) (ap (rise at v a b c d) e ∙ z))

-- the point is the last of a low simplex of a facet, beyond which no point lies
pub record IsUsed (xs : List Point) (v : ℕ → ℤ) (p : ℕ) : Type 0 where
  pub facet : Vector
  pub below : (k : ℕ) → IsNumberOf xs k → negsuc 0 ≤ℤ dot facet (place_of_point xs k)
  pub i : ℕ
  pub j : ℕ
  pub k : ℕ
  pub low : IsLow xs v facet i j k p

-- three numbers that are not negative, with the sum 0
three_none : (x y z : ℤ) → pos 0 ≤ℤ x → pos 0 ≤ℤ y → pos 0 ≤ℤ z → x +ℤ (y +ℤ z) ≡ pos 0 → (x ≡ pos 0) × (y ≡ pos 0) × (z ≡ pos 0)
three_none x y z i j k e = (omega (arith, ints, i, j, k, e), omega (arith, ints, i, j, k, e), omega (arith, ints, i, j, k, e))

module _ (xs : List Point) (v : ℕ → ℤ) (p : ℕ) (used : IsUsed xs v p) (a b c : ℕ) (na : IsNumberOf xs a) (nb : IsNumberOf xs b) (nc : IsNumberOf xs c)
    (size l1 l2 l3 : ℤ) (h1 : pos 0 ≤ℤ l1) (h2 : pos 0 ≤ℤ l2) (h3 : pos 0 ≤ℤ l3) (size_is : size ≡ l1 +ℤ (l2 +ℤ l3)) where
  abbrev spot : ℕ → Vector
  spot = place_of_point xs

  abbrev V : ℤ
  V = volume spot v used.i used.j used.k p

  abbrev form : Vector
  form = multiple V (through spot v used.i used.j used.k p)

  abbrev over : ℕ → ℤ
  over = gap spot v (V *ℤ V) form

  over_is : (x : ℕ) → V *ℤ rise spot v used.i used.j used.k p x ≡ over x
  over_is x = ap (λ z. V *ℤ z) (rise_gap spot v used.i used.j used.k p x) ∙ gap_multiple spot v V V (through spot v used.i used.j used.k p) x

  module _ (d : Vector) (mix : IsMixOf (three_weights size l1 l2 l3) (place_of_point xs a) (place_of_point xs b) (place_of_point xs c) d (place_of_point xs p)) where
    -- how far from the facet, with the weight
    apart : ℤ → ℕ → ℤ
    apart l x = l *ℤ (dot used.facet (spot x) +ℤ pos 1)

    apart_over : (l : ℤ) → pos 0 ≤ℤ l → (x : ℕ) → IsNumberOf xs x → pos 0 ≤ℤ apart l x
    unfolding apart
    apart_over l h x n = product_not_negative l (dot used.facet (spot x) +ℤ pos 1) h (one (dot used.facet (spot x)) (used.below x n))
      where
        one : (z : ℤ) → negsuc 0 ≤ℤ z → pos 0 ≤ℤ (z +ℤ pos 1)
        one z k = omega (arith, ints, k)

    apart_sum : apart l1 a +ℤ (apart l2 b +ℤ apart l3 c) ≡ pos 0
    unfolding apart
    apart_sum =
        by size l1 l2 l3 (dot used.facet (spot a)) (dot used.facet (spot b)) (dot used.facet (spot c)) (dot used.facet d) (dot used.facet (spot p)) size_is used.low.tight.3
        (dot_mix used.facet (three_weights size l1 l2 l3) (spot a) (spot b) (spot c) d (spot p) mix)
      where
        by : (k x y z t u w o p : ℤ) → k ≡ x +ℤ (y +ℤ z) → p ≡ negsuc 0 → k *ℤ p ≡ x *ℤ t +ℤ (y *ℤ u +ℤ (z *ℤ w +ℤ pos 0 *ℤ o))
            → x *ℤ (t +ℤ pos 1) +ℤ (y *ℤ (u +ℤ pos 1) +ℤ z *ℤ (w +ℤ pos 1)) ≡ pos 0
        by k x y z t u w o p e i m =
            ring (x ∷ y ∷ z ∷ t ∷ u ∷ w ∷ o ∷ [])
            (plus (times (var 0) (plus (var 3) (num (pos 1)))) (plus (times (var 1) (plus (var 4) (num (pos 1)))) (times (var 2) (plus (var 5) (num (pos 1))))))
            (plus (plus (times (var 0) (var 3)) (plus (times (var 1) (var 4)) (plus (times (var 2) (var 5)) (times (num (pos 0)) (var 6))))) (plus (var 0) (plus (var 1) (var 2)))) refl
            ∙ (λ r. (sym m ∙ ap (λ q. k *ℤ q) i) r +ℤ sym e r)
            ∙ ring (k ∷ []) (plus (times (var 0) (num (negsuc 0))) (var 0)) (num (pos 0)) refl

    none : (apart l1 a ≡ pos 0) × (apart l2 b ≡ pos 0) × (apart l3 c ≡ pos 0)
    none = three_none (apart l1 a) (apart l2 b) (apart l3 c) (apart_over l1 h1 a na) (apart_over l2 h2 b nb) (apart_over l3 h3 c nc) apart_sum

    -- a point with a weight lies in the facet, and so not below
    weighed_over : (l : ℤ) → pos 0 ≤ℤ l → (x : ℕ) → IsNumberOf xs x → apart l x ≡ pos 0 → pos 0 ≤ℤ (l *ℤ over x)
    unfolding apart
    weighed_over l h x n e =
        ⊎_elim (λ z. zero_not_negative (l *ℤ over x) (ap (λ q. q *ℤ over x) z ∙ omega (arith, ints)))
        (λ z. product_not_negative l (over x) h (subst (λ y. pos 0 ≤ℤ y) (over_is x) (low_over xs v used.facet used.i used.j used.k p used.low x n (tight (dot used.facet (spot x)) z))))
        (zero_factor l (dot used.facet (spot x) +ℤ pos 1) e)
      where
        tight : (z : ℤ) → z +ℤ pos 1 ≡ pos 0 → z ≡ negsuc 0
        tight z e = omega (arith, ints, e)

    over_sum : l1 *ℤ over a +ℤ (l2 *ℤ over b +ℤ l3 *ℤ over c) ≡ (V *ℤ V) *ℤ ((l1 *ℤ v a +ℤ (l2 *ℤ v b +ℤ l3 *ℤ v c)) -ℤ size *ℤ v p)
    over_sum =
        by (V *ℤ V) size l1 l2 l3 (v a) (v b) (v c) (v p) (dot form (spot a)) (dot form (spot b)) (dot form (spot c)) (dot form d) (dot form (spot p))
        (dot_mix form (three_weights size l1 l2 l3) (spot a) (spot b) (spot c) d (spot p) mix) (sym (over_is p) ∙ zero_out V (rise spot v used.i used.j used.k p p) (rise_fourth spot v used.i used.j used.k p))
      where
        by : (q k x y z va vb vc vp t u w o r : ℤ) → k *ℤ r ≡ x *ℤ t +ℤ (y *ℤ u +ℤ (z *ℤ w +ℤ pos 0 *ℤ o)) → q *ℤ vp -ℤ r ≡ pos 0
            → x *ℤ (q *ℤ va -ℤ t) +ℤ (y *ℤ (q *ℤ vb -ℤ u) +ℤ z *ℤ (q *ℤ vc -ℤ w)) ≡ q *ℤ ((x *ℤ va +ℤ (y *ℤ vb +ℤ z *ℤ vc)) -ℤ k *ℤ vp)
        by q k x y z va vb vc vp t u w o r m e =
            ring (q ∷ x ∷ y ∷ z ∷ va ∷ vb ∷ vc ∷ t ∷ u ∷ w ∷ o ∷ [])
            (plus (times (var 1) (minus (times (var 0) (var 4)) (var 7))) (plus (times (var 2) (minus (times (var 0) (var 5)) (var 8))) (times (var 3) (minus (times (var 0) (var 6)) (var 9)))))
            (minus (times (var 0) (plus (times (var 1) (var 4)) (plus (times (var 2) (var 5)) (times (var 3) (var 6)))))
            (plus (times (var 1) (var 7)) (plus (times (var 2) (var 8)) (plus (times (var 3) (var 9)) (times (num (pos 0)) (var 10)))))) refl
            ∙ (λ i. q *ℤ (x *ℤ va +ℤ (y *ℤ vb +ℤ z *ℤ vc)) -ℤ sym m i)
            ∙ ring (q ∷ (x *ℤ va +ℤ (y *ℤ vb +ℤ z *ℤ vc)) ∷ k ∷ r ∷ vp ∷ [])
            (minus (times (var 0) (var 1)) (times (var 2) (var 3)))
            (plus (times (var 0) (minus (var 1) (times (var 2) (var 4)))) (times (var 2) (minus (times (var 0) (var 4)) (var 3)))) refl
            ∙ (λ i. q *ℤ ((x *ℤ va +ℤ (y *ℤ vb +ℤ z *ℤ vc)) -ℤ k *ℤ vp) +ℤ k *ℤ e i)
            ∙ ring ((q *ℤ ((x *ℤ va +ℤ (y *ℤ vb +ℤ z *ℤ vc)) -ℤ k *ℤ vp)) ∷ k ∷ []) (plus (var 0) (times (var 1) (num (pos 0)))) (var 0) refl

    pub used_below : pos 0 ≤ℤ ((l1 *ℤ v a +ℤ (l2 *ℤ v b +ℤ l3 *ℤ v c)) -ℤ size *ℤ v p)
    used_below =
        factor_not_negative (V *ℤ V) ((l1 *ℤ v a +ℤ (l2 *ℤ v b +ℤ l3 *ℤ v c)) -ℤ size *ℤ v p) (square_positive V used.low.independent)
        (subst (λ z. pos 0 ≤ℤ z) over_sum
        (sum3 (l1 *ℤ over a) (l2 *ℤ over b) (l3 *ℤ over c) (weighed_over l1 h1 a na none.0) (weighed_over l2 h2 b nb none.1) (weighed_over l3 h3 c nc none.2)))
      where
        sum3 : (x y z : ℤ) → pos 0 ≤ℤ x → pos 0 ≤ℤ y → pos 0 ≤ℤ z → pos 0 ≤ℤ (x +ℤ (y +ℤ z))
        sum3 x y z i j k = omega (arith, ints, i, j, k)
