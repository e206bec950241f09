-- A low simplex and a point of its facet on the other side of three of its points: there is one low simplex on that side.
--     beyond_ridge      there is one
--     one_on_side      there are no two on one side
use Rattle.std.proofs.Common.{◌≡◌, ◌≢◌, ℕ, ⊎_elim, refl, sym, ap, ◌∙◌, subst, arith, ℤ, pos, ◌*ℤ◌, ◌<ℤ◌, ◌≤ℤ◌, neg_ℤ, List, [], ◌∷◌}
use Rattle.std.specs.Prelude.{Contains}
use Rattle.std.proofs.lemmas.Int.{ints}
use Rattle.ntfe_nums.specs.Vectors.{Vector, multiple}
use Rattle.ntfe_nums.proofs.Ring.{ring}
use Rattle.ntfe_nums.proofs.Ring.Expression.{var, times, neg}
use Rattle.ntfe_model.specs.Points.{place_of_point}
use Rattle.ntfe_model.specs.declared.point.Point.{Point}
use Rattle.ntfe_model.proofs.PlaneNumbers.{negative_product}
use Rattle.ntfe_nums.proofs.Exchanges.{same_first, same_second, same_third}
use Rattle.star_builder.proofs.LowSimplices.{IsLow, IsGeneric, low_apart, low_middle, low_first}
use Rattle.star_builder.proofs.Rises.{gap, gap_multiple, rise, rise_gap, rise_first, rise_second, rise_third, rise_fourth, rise_exchange, through, volume}
use Rattle.star_builder.proofs.Supports.{tight_points, tight_number, tight_on, in_tight, low_support}
use Rattle.star_builder.proofs.Tilts.{IsTilted, tilt_about, keeps_zero}
use Rattle.ntfe_nums.proofs.Signs.{negative_or, product_not_negative, same_or, square_not_negative, square_positive, zero_out, positive_product, zero_not_negative}

-- what is on the side of z lies, as z does, on the other side of v
across : (v z y : ℤ) → (v *ℤ z) <ℤ pos 0 → pos 0 <ℤ (z *ℤ y) → (v *ℤ y) <ℤ pos 0
across v z y l o = ⊎_elim (λ h. h) (λ h. absurd (no h)) (negative_or (v *ℤ y))
  where
    no : pos 0 ≤ℤ (v *ℤ y) → ⊥
    no h =
        clash ((v *ℤ z) *ℤ (z *ℤ y)) ((v *ℤ y) *ℤ (z *ℤ z)) (negative_product (v *ℤ z) (z *ℤ y) l o) (product_not_negative (v *ℤ y) (z *ℤ z) h (square_not_negative z))
        (ring (v ∷ z ∷ y ∷ []) (times (times (var 0) (var 1)) (times (var 1) (var 2))) (times (times (var 0) (var 2)) (times (var 1) (var 1))) refl)
      where
        clash : (p q : ℤ) → p <ℤ pos 0 → pos 0 ≤ℤ q → p ≡ q → ⊥
        clash p q k1 k2 e = absurd (omega (arith, ints, k1, k2, e))

-- where one of two simplices on one side of a ridge has the other's fourth point above it, the other has not
pub not_both : (V R W : ℤ) → pos 0 <ℤ (V *ℤ R) → pos 0 <ℤ (V *ℤ W) → pos 0 <ℤ (W *ℤ neg_ℤ R) → pos 0 <ℤ (V *ℤ V) → ⊥
not_both V R W l1 l2 l3 l4 =
    clash _ _ (positive_product (V *ℤ R) (V *ℤ W) l1 l2) (positive_product (V *ℤ V) (W *ℤ neg_ℤ R) l4 l3)
    (ring (V ∷ R ∷ W ∷ []) (times (times (var 0) (var 0)) (times (var 2) (neg (var 1)))) (neg (times (times (var 0) (var 1)) (times (var 0) (var 2)))) refl)
  where
    clash : (p q : ℤ) → pos 0 <ℤ p → pos 0 <ℤ q → q ≡ neg_ℤ p → ⊥
    clash p q k k2 f = absurd (omega (arith, ints, k, k2, f))

-- ---- the other side

module _ (xs : List Point) (v : ℕ → ℤ) (generic : IsGeneric xs v) (m : Vector) (a b c d : ℕ) (low : IsLow xs v m a b c d) where
  abbrev at : ℕ → Vector
  at = place_of_point xs

  abbrev det : ℤ
  det = volume at v a b c d

  -- how far x lies above the simplex, as a gap
  abbrev higher : ℕ → ℤ
  higher = gap at v (det *ℤ det) (multiple det (through at v a b c d))

  higher_is : (x : ℕ) → det *ℤ rise at v a b c d x ≡ higher x
  higher_is x = ap (λ z. det *ℤ z) (rise_gap at v a b c d x) ∙ gap_multiple at v det det (through at v a b c d) x

  higher_none : (x : ℕ) → rise at v a b c d x ≡ pos 0 → higher x ≡ pos 0
  higher_none x e = sym (higher_is x) ∙ zero_out det (rise at v a b c d x) e

  over : (x : ℕ) → Contains (tight_points m xs) x → pos 0 ≤ℤ higher x
  over x h =
      ⊎_elim (level a (rise_first at v a b c d)) (λ na.
      ⊎_elim (level b (rise_second at v a b c d)) (λ nb.
      ⊎_elim (level c (rise_third at v a b c d)) (λ nc.
      ⊎_elim (level d (rise_fourth at v a b c d)) (λ nd. above (det *ℤ rise at v a b c d x) (higher x) (higher_is x) (low.above x (tight_number m xs x h) na nb nc nd (tight_on m xs x h)))
      (same_or x d)) (same_or x c)) (same_or x b)) (same_or x a)
    where
      above : (y z : ℤ) → y ≡ z → pos 0 <ℤ y → pos 0 ≤ℤ z
      above y z e l = omega (arith, ints, e, l)

      level : (k : ℕ) → rise at v a b c d k ≡ pos 0 → x ≡ k → pos 0 ≤ℤ gap at v (volume at v a b c d *ℤ volume at v a b c d) (multiple (volume at v a b c d) (through at v a b c d)) x
      level k z e = zero_not_negative (higher x) (higher_none x (ap (rise at v a b c d) e ∙ z))

  -- some point lies beyond the ridge, so there is a low simplex on that side
  pub beyond_ridge : (z : ℕ) → Contains (tight_points m xs) z → (det *ℤ volume at v a b c z) <ℤ pos 0
      → (e : ℕ) × IsLow xs v m a b c e × ((det *ℤ volume at v a b c e) <ℤ pos 0)
  beyond_ridge z h l = by (tilt_about at v (tight_points m xs) (det *ℤ det) (multiple det (through at v a b c d)) over a b c z h (apart (volume at v a b c z) l))
    where
      apart : (y : ℤ) → (volume at v a b c d *ℤ y) <ℤ pos 0 → y ≢ pos 0
      apart y k e = clash (volume at v a b c d *ℤ y) (zero_out (volume at v a b c d) y e) k
        where
          clash : (q : ℤ) → q ≡ pos 0 → q <ℤ pos 0 → ⊥
          clash q f k1 = absurd (omega (arith, ints, f, k1))

      by : IsTilted at v (tight_points m xs) (volume at v a b c d *ℤ volume at v a b c d) (multiple (volume at v a b c d) (through at v a b c d)) a b c z
          → (e : ℕ) × IsLow xs v m a b c e × ((volume at v a b c d *ℤ volume at v a b c e) <ℤ pos 0)
      by t = (
        t.y,
        low_support xs v generic m t.size t.form (subst (λ y. pos 0 <ℤ y) (sym t.size_is) (positive_product t.factor (det *ℤ det) t.positive (square_positive det low.independent))) t.under a b c t.y
            (in_tight m xs a low.numbers.0 low.tight.0) (in_tight m xs b low.numbers.1 low.tight.1) (in_tight m xs c low.numbers.2 low.tight.2) t.within t.apart
            (kept a (same_first (at a) (at b) (at c)) (rise_first at v a b c d)) (kept b (same_second (at a) (at b) (at c)) (rise_second at v a b c d)) (kept c (same_third (at a) (at b) (at c)) (rise_third at v a b c d)) t.touches,
        across det (volume at v a b c z) (volume at v a b c t.y) l t.same_side,
      )
        where
          kept : (x : ℕ) → volume at v a b c x ≡ pos 0 → rise at v a b c d x ≡ pos 0 → gap at v t.size t.form x ≡ pos 0
          kept x e f = keeps_zero at v (tight_points m xs) (det *ℤ det) (multiple det (through at v a b c d)) a b c z t x e (higher_none x f)

  -- two low simplices on one side of a ridge are one
  pub one_on_side : (e : ℕ) → IsLow xs v m a b c e → pos 0 <ℤ (det *ℤ volume at v a b c e) → d ≡ e
  one_on_side e other side = ⊎_elim (λ q. q) (λ n. absurd (apart n)) (same_or d e)
    where
      flip : {i j : ℕ} → i ≢ j → j ≢ i
      flip n q = n (sym q)

      apart : d ≢ e → ⊥
      apart n =
          not_both (volume at v a b c d) (rise at v a b c d e) (volume at v a b c e)
          (low.above e other.numbers.3
          (flip (first_apart e other)) (flip (second_apart e other)) (flip (low_apart xs v m a b c e other)) (flip n) other.tight.3)
          side
          (subst (λ r. pos 0 <ℤ (volume at v a b c e *ℤ r)) (rise_exchange at v a b c d e)
          (other.above d low.numbers.3 (flip (first_apart d low)) (flip (second_apart d low)) (flip (low_apart xs v m a b c d low)) n low.tight.3))
          (square_positive (volume at v a b c d) low.independent)
        where
          second_apart : (k : ℕ) → IsLow xs v m a b c k → b ≢ k
          second_apart k l = low_apart xs v m a c b k (low_middle xs v m a b c k l)

          first_apart : (k : ℕ) → IsLow xs v m a b c k → a ≢ k
          first_apart k l = low_apart xs v m b c a k (low_middle xs v m b a c k (low_first xs v m a b c k l))
