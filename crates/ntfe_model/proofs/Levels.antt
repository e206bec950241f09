-- The plane over a triple of points with heights, and the points above it.
--     level      the area of the triple times the height of its plane at a point
use Rattle.std.proofs.Common.{◌≡◌, ℕ, refl, ap, ◌∙◌, arith, ℤ, pos, ◌+ℤ◌, ◌-ℤ◌, ◌*ℤ◌, ◌<ℤ◌, List, [], ◌∷◌}
use Rattle.std.proofs.lemmas.Int.{ints}
use Rattle.ntfe_nums.specs.Vectors.{Vector, area}
use Rattle.ntfe_model.specs.Charts.{Patch, axes, place, reached, IsOf, IsUnit}
use Rattle.ntfe_model.specs.Choices.{height, IsAbove}
use Rattle.ntfe_nums.proofs.Ring.{Expression, ring}
use Rattle.ntfe_nums.proofs.Ring.Expression.{var, num, plus, minus, times}
use Rattle.ntfe_model.proofs.PlaneNumbers.{positive_factor, area_first, area_second, area_third, plane, plane_turn}
use Rattle.ntfe_model.proofs.UnitTriples.{area_of, reached_turn, unit_area}

abbrev oneE : ℕ → ℕ → Expression
oneE i j = minus (minus (num (pos 1)) (var i)) (var j)

-- the plane at a reached vector
pub plane_reached : (q : ℕ × ℕ) (a b c : Vector) (s t x y z : ℤ)
    → plane q a b c x y z (reached a b c s t) ≡ ((pos 1 -ℤ s -ℤ t) *ℤ x +ℤ s *ℤ y +ℤ t *ℤ z) *ℤ area q a b c
plane_reached q a b c s t x y z =
    (λ i. area_first q a b c s t i *ℤ x +ℤ area_second q a b c s t i *ℤ y +ℤ area_third q a b c s t i *ℤ z)
    ∙ ring (area q a b c ∷ s ∷ t ∷ x ∷ y ∷ z ∷ [])
    (plus (plus (times (times (oneE 1 2) (var 0)) (var 3)) (times (times (var 1) (var 0)) (var 4))) (times (times (var 2) (var 0)) (var 5)))
    (times (plus (plus (times (oneE 1 2) (var 3)) (times (var 1) (var 4))) (times (var 2) (var 5))) (var 0)) refl

-- the area of the triple times the height of its plane at p
abbrev pub level : Patch → List ℤ → ℕ → ℕ → ℕ → ℕ → ℤ
level h w a b c p = plane (axes h) (place h a) (place h b) (place h c) (height w a) (height w b) (height w c) (place h p)

pub level_turn : (h : Patch) (w : List ℤ) (a b c p : ℕ) → level h w b c a p ≡ level h w a b c p
level_turn h w a b c p = plane_turn (axes h) (place h a) (place h b) (place h c) (height w a) (height w b) (height w c) (place h p)

pub above_from_level : (h : Patch) (w : List ℤ) (a b c p : ℕ) → IsUnit h a b c → IsOf h p → level h w a b c p <ℤ (height w p *ℤ area_of h a b c) → IsAbove h w a b c p
above_from_level h w a b c p u o l =
    let r = u.reaches p o in
    let e = ap (plane (axes h) (place h a) (place h b) (place h c) (height w a) (height w b) (height w c)) r.2 ∙ plane_reached (axes h) (place h a) (place h b) (place h c) r.0 r.1 (height w a) (height w b) (height w c) in
    record { s = r.0; t = r.1; lies = r.2; above = less ((pos 1 -ℤ r.0 -ℤ r.1) *ℤ height w a +ℤ r.0 *ℤ height w b +ℤ r.1 *ℤ height w c) (height w p) (area_of h a b c) (level h w a b c p) (unit_area h a b c u) e l }
  where
    gap : (k x y z : ℤ) → k ≡ x → k <ℤ y → y -ℤ x ≡ z → pos 0 <ℤ z
    gap k x y z e m f = omega (arith, ints, e, m, f)

    back : (x y : ℤ) → pos 0 <ℤ (y -ℤ x) → x <ℤ y
    back x y m = omega (arith, ints, m)

    less : (x y k z : ℤ) → pos 0 <ℤ k → z ≡ x *ℤ k → z <ℤ (y *ℤ k) → x <ℤ y
    less x y k z m e n =
        back x y (positive_factor (y -ℤ x) k m (gap z (x *ℤ k) (y *ℤ k) ((y -ℤ x) *ℤ k) e n (ring (x ∷ y ∷ k ∷ []) (minus (times (var 1) (var 2)) (times (var 0) (var 2))) (times (minus (var 1) (var 0)) (var 2)) refl)))

pub above_turn : (h : Patch) (w : List ℤ) (a b c p : ℕ) → IsAbove h w a b c p → IsAbove h w b c a p
above_turn h w a b c p r = record {
  s = r.t;
  t = pos 1 -ℤ r.s -ℤ r.t;
  lies = r.lies ∙ reached_turn (place h a) (place h b) (place h c) r.s r.t;
  above = by _ _ _ (same r.s r.t (height w a) (height w b) (height w c)) r.above;
}
  where
    by : (x y z : ℤ) → x ≡ y → x <ℤ z → y <ℤ z
    by x y z e l = omega (arith, ints, e, l)

    same : (s t x y z : ℤ) → (pos 1 -ℤ s -ℤ t) *ℤ x +ℤ s *ℤ y +ℤ t *ℤ z ≡ (pos 1 -ℤ t -ℤ (pos 1 -ℤ s -ℤ t)) *ℤ y +ℤ t *ℤ z +ℤ (pos 1 -ℤ s -ℤ t) *ℤ x
    same s t x y z =
        ring (s ∷ t ∷ x ∷ y ∷ z ∷ [])
        (plus (plus (times (oneE 0 1) (var 2)) (times (var 0) (var 3))) (times (var 1) (var 4)))
        (plus (plus (times (minus (minus (num (pos 1)) (var 1)) (oneE 0 1)) (var 3)) (times (var 1) (var 4))) (times (oneE 0 1) (var 2))) refl
