-- A point of a two-face is a combination of the corners of a unit triple with small factors.
--     area_size      the size of an area of three small vectors
--     unit_factors_small      the factors of a reached point of the face
--     mixed_corners      a reached vector as a combination
use Rattle.std.proofs.Common.{◌≡◌, ℕ, ◌-◌, ◌≤◌, refl, ap, ◌∙◌, arith, ℤ, pos, ◌+ℤ◌, ◌-ℤ◌, ◌*ℤ◌, [], ◌∷◌, unsigned_abs}
use Rattle.ntfe_nums.specs.Vectors.{Vector, numbers, vector_sum, multiple, coordinate, area}
use Rattle.ntfe_nums.proofs.Ring.{ring}
use Rattle.ntfe_nums.proofs.Ring.Expression.{var, num, plus, minus, times}
use Rattle.ntfe_nums.proofs.DetLemmas.{det2E}
use Rattle.ntfe_nums.proofs.Machine.{value-size, AreWithin-four}
use Rattle.ntfe_model.specs.Pairs.{IsSmall}
use Rattle.ntfe_model.specs.Charts.{Patch, axes, place, reached, IsOf, IsUnit}
use Rattle.ntfe_model.proofs.SmallVectors.{small_numbers}
use Rattle.ntfe_model.proofs.FoldSizes.{factor_size}
use Rattle.ntfe_model.proofs.PlaneNumbers.{area_first, area_second, area_third}
use Rattle.ntfe_model.proofs.UnitTriples.{area_of, unit_area}
use Rattle.ntfe_nums.proofs.Signs.{positive_some}

-- twice the square of 2,046
abbrev pub factor_bound : ℕ
factor_bound = 8372232

pub area_size : (q : ℕ × ℕ) (a b c : Vector) → IsSmall a → IsSmall b → IsSmall c → unsigned_abs (area q a b c) ≤ factor_bound
area_size q a b c sa sb sc =
    let at = λ (v : Vector) (s : IsSmall v) (k : ℕ). AreWithin-four 1023 (numbers v) (small_numbers v s) (k - 1) in
    value-size (coordinate q.0 a ∷ coordinate q.1 a ∷ coordinate q.0 b ∷ coordinate q.1 b ∷ coordinate q.0 c ∷ coordinate q.1 c ∷ [])
    (1023 ∷ 1023 ∷ 1023 ∷ 1023 ∷ 1023 ∷ 1023 ∷ [])
    (det2E (minus (var 2) (var 0)) (minus (var 3) (var 1)) (minus (var 4) (var 0)) (minus (var 5) (var 1)))
    (at a sa q.0, (at a sa q.1, (at b sb q.0, (at b sb q.1, (at c sc q.0, (at c sc q.1, tt))))))

-- each factor is a quotient of two areas
pub unit_factors_small : (h : Patch) (a b c p : ℕ) (s t : ℤ) → IsUnit h a b c → IsOf h p → ((k : ℕ) → IsOf h k → IsSmall (place h k))
    → place h p ≡ reached (place h a) (place h b) (place h c) s t
    → (unsigned_abs (pos 1 -ℤ s -ℤ t) ≤ factor_bound) × (unsigned_abs s ≤ factor_bound) × (unsigned_abs t ≤ factor_bound)
unit_factors_small h a b c p s t u o small lies = (
  by (pos 1 -ℤ s -ℤ t) b c u.points.1 u.points.2 (area_first (axes h) (place h a) (place h b) (place h c) s t),
  by s c a u.points.2 u.points.0 (area_second (axes h) (place h a) (place h b) (place h c) s t),
  by t a b u.points.0 u.points.1 (area_third (axes h) (place h a) (place h b) (place h c) s t),
)
  where
    below : (i j k : ℕ) → i ≤ j → j ≤ k → i ≤ k
    below i j k l m = omega (arith, l, m)

    by : (factor : ℤ) (i j : ℕ) → IsOf h i → IsOf h j → area (axes h) (place h i) (place h j) (reached (place h a) (place h b) (place h c) s t) ≡ factor *ℤ area_of h a b c
        → unsigned_abs factor ≤ factor_bound
    by factor i j oi oj e =
        below _ _ _ (factor_size factor (area_of h a b c) (area_of h i j p) (positive_some (area_of h a b c) (unit_area h a b c u)) (ap (area (axes h) (place h i) (place h j)) lies ∙ e))
        (area_size (axes h) (place h i) (place h j) (place h p) (small i oi) (small j oj) (small p o))

mixed_number : (a b c s t : ℤ) → a +ℤ (s *ℤ (b -ℤ a) +ℤ t *ℤ (c -ℤ a)) ≡ (pos 1 -ℤ s -ℤ t) *ℤ a +ℤ s *ℤ b +ℤ t *ℤ c
mixed_number a b c s t =
    ring (a ∷ b ∷ c ∷ s ∷ t ∷ [])
    (plus (var 0) (plus (times (var 3) (minus (var 1) (var 0))) (times (var 4) (minus (var 2) (var 0)))))
    (plus (plus (times (minus (minus (num (pos 1)) (var 3)) (var 4)) (var 0)) (times (var 3) (var 1))) (times (var 4) (var 2))) refl

pub mixed_corners : (a b c : Vector) (s t : ℤ) → reached a b c s t ≡ vector_sum (vector_sum (multiple (pos 1 -ℤ s -ℤ t) a) (multiple s b)) (multiple t c)
mixed_corners a b c s t =
    λ i. record { x1 = mixed_number a.x1 b.x1 c.x1 s t i; x2 = mixed_number a.x2 b.x2 c.x2 s t i; x3 = mixed_number a.x3 b.x3 c.x3 s t i; x4 = mixed_number a.x4 b.x4 c.x4 s t i }
