-- Sides of unit triples cross exactly where each separates the ends of the other.
--     crossing_turns      two sides with different ends that cross lie so
--     turns_crossing      and sides that lie so cross
use Rattle.std.proofs.Common.{◌≡◌, ◌≢◌, ℕ, zero, suc, ◌+◌, ◌-◌, ◌<◌, ◌≤◌, ◌⊎◌, inl, inr, ⊎_elim, refl, sym, ap, ◌∙◌, subst, arith, ℤ, pos, negsuc, ◌+ℤ◌, ◌-ℤ◌, ◌*ℤ◌, ◌<ℤ◌, neg_ℤ, [], ◌∷◌}
use Rattle.std.proofs.lemmas.Int.{ints}
use Rattle.ntfe_nums.specs.Vectors.{Vector, coordinate, multiple, area, sign}
use Rattle.ntfe_nums.proofs.Ring.{ring}
use Rattle.ntfe_nums.proofs.Ring.Expression.{var, num, plus, minus, times, neg}
use Rattle.ntfe_nums.proofs.Signs.{positive_product, product_zero}
use Rattle.ntfe_model.specs.Charts.{Patch, axes, place, reached, turn, IsOf, IsUnit}
use Rattle.ntfe_model.specs.Triangulations.{DoCross, mixed, IsEndOf, HaveSameEnds}
use Rattle.ntfe_model.specs.Charts.{AreApart}
use Rattle.fine_stream.specs.Paths.{AreOpposite}
use Rattle.ntfe_model.proofs.PlaneNumbers.{zero_factor, cancel, sign_positive, sign_negative, negative_product, area_turn, area_second, area_third, area_multiple, flat_last, flat_outer, areaE, at}
use Rattle.ntfe_model.proofs.UnitTriples.{area_of, unit_area, unit_areas, reached_first, reached_second}
use Rattle.ntfe_model.proofs.Folds.{unit_three}
use Rattle.fine_triples.proofs.CrossLemmas.{cross_swap}

-- ---- a point of a segment, in one coordinate and as areas

at_mixed : (i n s : ℕ) (a b : Vector) → at i (mixed n s a b) ≡ (pos n -ℤ pos s) *ℤ at i a +ℤ pos s *ℤ at i b
at_mixed zero n s a b = refl
at_mixed (suc zero) n s a b = refl
at_mixed (suc (suc zero)) n s a b = refl
at_mixed (suc (suc (suc zero))) n s a b = refl
at_mixed (suc (suc (suc (suc i)))) n s a b = sym ((λ j. product_zero (pos n -ℤ pos s) j +ℤ product_zero (pos s) j) ∙ refl)

coordinate_meet : (k n s t : ℕ) (a b c d : Vector) → mixed n s a b ≡ mixed n t c d
    → (pos n -ℤ pos s) *ℤ coordinate k a +ℤ pos s *ℤ coordinate k b ≡ (pos n -ℤ pos t) *ℤ coordinate k c +ℤ pos t *ℤ coordinate k d
coordinate_meet k n s t a b c d e = sym (at_mixed (k - 1) n s a b) ∙ ap (at (k - 1)) e ∙ at_mixed (k - 1) n t c d

abbrev offset : ℤ → ℤ → ℤ → ℤ → ℤ → ℤ → ℤ → ℤ
offset n ki kj li lj x y = (li -ℤ ki) *ℤ y -ℤ (lj -ℤ kj) *ℤ x -ℤ n *ℤ ((li -ℤ ki) *ℤ kj -ℤ (lj -ℤ kj) *ℤ ki)

-- the area of a point of a segment over k and l
mixed_area : (q : ℕ × ℕ) (k l a b : Vector) (n s : ℤ)
    → (n -ℤ s) *ℤ area q k l a +ℤ s *ℤ area q k l b
    ≡ offset n (coordinate q.0 k) (coordinate q.1 k) (coordinate q.0 l) (coordinate q.1 l)
    ((n -ℤ s) *ℤ coordinate q.0 a +ℤ s *ℤ coordinate q.0 b) ((n -ℤ s) *ℤ coordinate q.1 a +ℤ s *ℤ coordinate q.1 b)
mixed_area q k l a b n s =
    ring (n ∷ s ∷ coordinate q.0 k ∷ coordinate q.1 k ∷ coordinate q.0 l ∷ coordinate q.1 l ∷ coordinate q.0 a ∷ coordinate q.1 a ∷ coordinate q.0 b ∷ coordinate q.1 b ∷ [])
    (plus (times (minus (var 0) (var 1)) (areaE 2 4 6)) (times (var 1) (areaE 2 4 8)))
    (minus (minus (times (minus (var 4) (var 2)) (plus (times (minus (var 0) (var 1)) (var 7)) (times (var 1) (var 9))))
    (times (minus (var 5) (var 3)) (plus (times (minus (var 0) (var 1)) (var 6)) (times (var 1) (var 8)))))
    (times (var 0) (minus (times (minus (var 4) (var 2)) (var 3)) (times (minus (var 5) (var 3)) (var 2))))) refl

pub meet_area : (q : ℕ × ℕ) (k l a b c d : Vector) (n s t : ℕ) → mixed n s a b ≡ mixed n t c d
    → (pos n -ℤ pos s) *ℤ area q k l a +ℤ pos s *ℤ area q k l b ≡ (pos n -ℤ pos t) *ℤ area q k l c +ℤ pos t *ℤ area q k l d
meet_area q k l a b c d n s t e =
    mixed_area q k l a b (pos n) (pos s)
    ∙ (λ i. offset (pos n) (coordinate q.0 k) (coordinate q.1 k) (coordinate q.0 l) (coordinate q.1 l) (coordinate_meet q.0 n s t a b c d e i) (coordinate_meet q.1 n s t a b c d e i))
    ∙ sym (mixed_area q k l c d (pos n) (pos t))

-- ---- the two equations of a meeting point, in the coordinates of a unit triple

record Meets (n s t : ℕ) (c1 c2 d1 d2 : ℤ) : Type 0 where
  along : pos s ≡ (pos n -ℤ pos t) *ℤ c1 +ℤ pos t *ℤ d1
  across : (pos n -ℤ pos t) *ℤ c2 +ℤ pos t *ℤ d2 ≡ pos 0

common : (u t x y w : ℤ) → u *ℤ (x *ℤ w) +ℤ t *ℤ (y *ℤ w) ≡ (u *ℤ x +ℤ t *ℤ y) *ℤ w
common u t x y w =
    ring (u ∷ t ∷ x ∷ y ∷ w ∷ []) (plus (times (var 0) (times (var 2) (var 4))) (times (var 1) (times (var 3) (var 4))))
    (times (plus (times (var 0) (var 2)) (times (var 1) (var 3))) (var 4)) refl

no_weight : (u t : ℤ) → u *ℤ pos 0 +ℤ t *ℤ pos 0 ≡ pos 0
no_weight u t = omega (arith, ints)

one_weight : (u t w : ℤ) → u *ℤ pos 0 +ℤ t *ℤ w ≡ t *ℤ w
one_weight u t w = omega (arith, ints)

zero_times : (w : ℤ) → pos 0 ≡ pos 0 *ℤ w
zero_times w = omega (arith, ints)

meets_at : (q : ℕ × ℕ) (a b e c d : Vector) (n s t : ℕ) (c1 c2 d1 d2 : ℤ) → pos 0 <ℤ area q a b e → c ≡ reached a b e c1 c2 → d ≡ reached a b e d1 d2
    → mixed n s a b ≡ mixed n t c d → Meets n s t c1 c2 d1 d2
meets_at q a b e c d n s t c1 c2 d1 d2 h ec ed m = record {
  along = cancel (pos s) (u *ℤ c1 +ℤ pos t *ℤ d1) w h
      (sym ((λ i. (pos n -ℤ pos s) *ℤ flat_last q e a i +ℤ pos s *ℤ round i) ∙ one_weight (pos n -ℤ pos s) (pos s) w)
      ∙ meet_area q e a a b c d n s t m ∙ (λ i. u *ℤ second_c i +ℤ pos t *ℤ second_d i) ∙ common u (pos t) c1 d1 w);
  across = cancel (u *ℤ c2 +ℤ pos t *ℤ d2) (pos 0) w h
      (sym (common u (pos t) c2 d2 w) ∙ sym (λ i. u *ℤ third_c i +ℤ pos t *ℤ third_d i) ∙ sym (meet_area q a b a b c d n s t m)
      ∙ (λ i. (pos n -ℤ pos s) *ℤ flat_outer q a b i +ℤ pos s *ℤ flat_last q a b i) ∙ no_weight (pos n -ℤ pos s) (pos s) ∙ zero_times w);
}
  where
    w : ℤ
    w = area q a b e

    u : ℤ
    u = pos n -ℤ pos t

    round : area q e a b ≡ area q a b e
    round = area_turn q b e a ∙ area_turn q a b e

    second_c : area q e a c ≡ c1 *ℤ area q a b e
    second_c = ap (area q e a) ec ∙ area_second q a b e c1 c2

    second_d : area q e a d ≡ d1 *ℤ area q a b e
    second_d = ap (area q e a) ed ∙ area_second q a b e d1 d2

    third_c : area q a b c ≡ c2 *ℤ area q a b e
    third_c = ap (area q a b) ec ∙ area_third q a b e c1 c2

    third_d : area q a b d ≡ d2 *ℤ area q a b e
    third_d = ap (area q a b) ed ∙ area_third q a b e d1 d2

-- ---- whole numbers

signs : (u t : ℕ) (x y : ℤ) → 0 < u → 0 < t → pos u *ℤ x +ℤ pos t *ℤ y ≡ pos 0
    → ((pos 0 <ℤ x) × (y <ℤ pos 0)) ⊎ (((x <ℤ pos 0) × (pos 0 <ℤ y)) ⊎ ((x ≡ pos 0) × (y ≡ pos 0)))
signs zero t x y h k e = absurd (omega arith)
signs (suc u) zero x y h k e = absurd (omega arith)
signs (suc u) (suc t) (pos zero) (pos zero) h k e = inr (inr (refl, refl))
signs (suc u) (suc t) (pos zero) (pos (suc j)) h k e = absurd (omega (arith, ints, e))
signs (suc u) (suc t) (pos zero) (negsuc j) h k e = absurd (omega (arith, ints, e))
signs (suc u) (suc t) (pos (suc i)) (pos zero) h k e = absurd (omega (arith, ints, e))
signs (suc u) (suc t) (pos (suc i)) (pos (suc j)) h k e = absurd (omega (arith, ints, e))
signs (suc u) (suc t) (pos (suc i)) (negsuc j) h k e = inl (omega (arith, ints), omega (arith, ints))
signs (suc u) (suc t) (negsuc i) (pos zero) h k e = absurd (omega (arith, ints, e))
signs (suc u) (suc t) (negsuc i) (pos (suc j)) h k e = inr (inl (omega (arith, ints), omega (arith, ints)))
signs (suc u) (suc t) (negsuc i) (negsuc j) h k e = absurd (omega (arith, ints, e))

-- a multiple of n from 0 to n is 0 or n
first_multiple : (n s : ℕ) (x : ℤ) → 0 < n → s ≤ n → pos s ≡ pos n *ℤ x → (x ≡ pos 0) ⊎ (x ≡ pos 1)
first_multiple zero s x h k e = absurd (omega arith)
first_multiple (suc n) s (pos zero) h k e = inl refl
first_multiple (suc n) s (pos (suc zero)) h k e = inr refl
first_multiple (suc n) s (pos (suc (suc i))) h k e = absurd (omega (arith, ints, e))
first_multiple (suc n) s (negsuc i) h k e = absurd (omega (arith, ints, e))

-- u x + t (x + 1) from 0 to u + t
next_multiple : (u t s : ℕ) (x : ℤ) → 0 < u → 0 < t → s ≤ u + t → pos s ≡ pos u *ℤ x +ℤ pos t *ℤ (x +ℤ pos 1) → x ≡ pos 0
next_multiple zero t s x h k l e = absurd (omega arith)
next_multiple (suc u) zero s x h k l e = absurd (omega arith)
next_multiple (suc u) (suc t) s (pos zero) h k l e = refl
next_multiple (suc u) (suc t) s (pos (suc i)) h k l e = absurd (go (e ∙ ap (λ y. pos (suc u) *ℤ pos (suc i) +ℤ pos (suc t) *ℤ y) (more i)))
  where
    more : (i : ℕ) → pos (suc i) +ℤ pos 1 ≡ pos (suc (suc i))
    more i = omega (arith, ints)

    go : pos s ≡ pos (suc u) *ℤ pos (suc i) +ℤ pos (suc t) *ℤ pos (suc (suc i)) → ⊥
    go f = absurd (omega (arith, ints, f))
next_multiple (suc u) (suc t) s (negsuc zero) h k l e = absurd (omega (arith, ints, e))
next_multiple (suc u) (suc t) s (negsuc (suc i)) h k l e = absurd (go (e ∙ ap (λ y. pos (suc u) *ℤ negsuc (suc i) +ℤ pos (suc t) *ℤ y) (more i)))
  where
    more : (i : ℕ) → negsuc (suc i) +ℤ pos 1 ≡ negsuc i
    more i = omega (arith, ints)

    go : pos s ≡ pos (suc u) *ℤ negsuc (suc i) +ℤ pos (suc t) *ℤ negsuc i → ⊥
    go f = absurd (omega (arith, ints, f))

-- u x + t (x - 1) from 0 to u + t
last_multiple : (u t s : ℕ) (x : ℤ) → 0 < u → 0 < t → s ≤ u + t → pos s ≡ pos u *ℤ x +ℤ pos t *ℤ (x -ℤ pos 1) → x ≡ pos 1
last_multiple u t s x h k l e =
    shift x (next_multiple t u s (x -ℤ pos 1) k h (omega arith) (e ∙ swap (pos u) (pos t) x))
  where
    shift : (z : ℤ) → z -ℤ pos 1 ≡ pos 0 → z ≡ pos 1
    shift z f = omega (arith, ints, f)

    swap : (v w z : ℤ) → v *ℤ z +ℤ w *ℤ (z -ℤ pos 1) ≡ w *ℤ (z -ℤ pos 1) +ℤ v *ℤ (z -ℤ pos 1 +ℤ pos 1)
    swap v w z =
        ring (v ∷ w ∷ z ∷ []) (plus (times (var 0) (var 2)) (times (var 1) (minus (var 2) (num (pos 1)))))
        (plus (times (var 1) (minus (var 2) (num (pos 1)))) (times (var 0) (plus (minus (var 2) (num (pos 1))) (num (pos 1))))) refl

unit_factor : (x y : ℤ) → x *ℤ y ≡ pos 1 → (x ≡ pos 1) ⊎ (x ≡ negsuc 0)
unit_factor (pos zero) y e = absurd (go (pos 0 *ℤ y) (omega (arith, ints)) e)
  where
    go : (z : ℤ) → z ≡ pos 0 → z ≡ pos 1 → ⊥
    go z f g = absurd (omega (arith, ints, f, g))
unit_factor (pos (suc zero)) y e = inl refl
unit_factor (pos (suc (suc i))) (pos zero) e = absurd (omega (arith, ints, e))
unit_factor (pos (suc (suc i))) (pos (suc j)) e = absurd (omega (arith, ints, e))
unit_factor (pos (suc (suc i))) (negsuc j) e = absurd (omega (arith, ints, e))
unit_factor (negsuc zero) y e = inr refl
unit_factor (negsuc (suc i)) (pos zero) e = absurd (omega (arith, ints, e))
unit_factor (negsuc (suc i)) (pos (suc j)) e = absurd (omega (arith, ints, e))
unit_factor (negsuc (suc i)) (negsuc j) e = absurd (omega (arith, ints, e))

-- ---- signs

sign_times : (z w : ℤ) → pos 0 <ℤ w → sign (z *ℤ w) ≡ sign z
sign_times (pos zero) w h = ap sign (sym (zero_times w))
sign_times (pos (suc i)) w h = sign_positive (pos (suc i) *ℤ w) (positive_product (pos (suc i)) w (omega (arith, ints)) h)
sign_times (negsuc i) w h = sign_negative (negsuc i *ℤ w) (negative_product (negsuc i) w (omega (arith, ints)) h)

opposite_signs : (x y : ℤ) → ((pos 0 <ℤ x) × (y <ℤ pos 0)) ⊎ ((x <ℤ pos 0) × (pos 0 <ℤ y)) → AreOpposite (sign x) (sign y)
opposite_signs x y (inl p) = inl (sign_positive x p.0, sign_negative y p.1)
opposite_signs x y (inr p) = inr (sign_negative x p.0, sign_positive y p.1)

-- a number with the sign of a positive, or a negative one
positive_is : (z : ℤ) → sign z ≡ pos 1 → (i : ℕ) × (z ≡ pos (suc i))
positive_is (pos zero) e = absurd (omega (arith, ints, e))
positive_is (pos (suc i)) e = (i, refl)
positive_is (negsuc i) e = absurd (omega (arith, ints, e))

negative_is : (z : ℤ) → sign z ≡ negsuc 0 → (i : ℕ) × (z ≡ negsuc i)
negative_is (pos zero) e = absurd (omega (arith, ints, e))
negative_is (pos (suc i)) e = absurd (omega (arith, ints, e))
negative_is (negsuc i) e = (i, refl)

-- no turn on a line is one of two opposite ones
pub zero_first : (x y : ℤ) → x ≡ pos 0 → AreOpposite x y → ⊥
zero_first x y e (inl p) = let f : pos 0 ≡ pos 1 = sym e ∙ p.0 in absurd (omega (arith, ints, f))
zero_first x y e (inr p) = let f : pos 0 ≡ negsuc 0 = sym e ∙ p.0 in absurd (omega (arith, ints, f))

pub zero_second : (x y : ℤ) → y ≡ pos 0 → AreOpposite x y → ⊥
zero_second x y e (inl p) = let f : pos 0 ≡ negsuc 0 = sym e ∙ p.1 in absurd (omega (arith, ints, f))
zero_second x y e (inr p) = let f : pos 0 ≡ pos 1 = sym e ∙ p.1 in absurd (omega (arith, ints, f))

-- ---- ends

pub first_weight : (n x y : ℤ) → (n -ℤ pos 0) *ℤ x +ℤ pos 0 *ℤ y ≡ n *ℤ x
first_weight n x y =
    ring (n ∷ x ∷ y ∷ []) (plus (times (minus (var 0) (num (pos 0))) (var 1)) (times (num (pos 0)) (var 2))) (times (var 0) (var 1)) refl

pub last_weight : (n x y : ℤ) → (n -ℤ n) *ℤ x +ℤ n *ℤ y ≡ n *ℤ y
last_weight n x y =
    ring (n ∷ x ∷ y ∷ []) (plus (times (minus (var 0) (var 0)) (var 1)) (times (var 0) (var 2))) (times (var 0) (var 2)) refl

mixed_first : (n t : ℕ) (c d : Vector) → t ≡ 0 → mixed n t c d ≡ multiple (pos n) c
mixed_first n t c d e =
    ap (λ k. mixed n k c d) e
    ∙ (λ i. record { x1 = first_weight (pos n) c.x1 d.x1 i; x2 = first_weight (pos n) c.x2 d.x2 i; x3 = first_weight (pos n) c.x3 d.x3 i; x4 = first_weight (pos n) c.x4 d.x4 i })

mixed_last : (n t : ℕ) (c d : Vector) → t ≡ n → mixed n t c d ≡ multiple (pos n) d
mixed_last n t c d e =
    ap (λ k. mixed n k c d) e
    ∙ (λ i. record { x1 = last_weight (pos n) c.x1 d.x1 i; x2 = last_weight (pos n) c.x2 d.x2 i; x3 = last_weight (pos n) c.x3 d.x3 i; x4 = last_weight (pos n) c.x4 d.x4 i })

where_between : (n t : ℕ) → t ≤ n → (t ≡ 0) ⊎ ((t ≡ n) ⊎ ((0 < t) × (t < n)))
where_between n t h = grind arith

-- ---- crossing sides lie on both sides of each other

turn_is : (h : Patch) (a b e p : ℕ) (s t : ℤ) → IsUnit h a b e → place h p ≡ reached (place h a) (place h b) (place h e) s t → turn h a b p ≡ sign t
turn_is h a b e p s t u r =
    ap sign (ap (area (axes h) (place h a) (place h b)) r ∙ area_third (axes h) (place h a) (place h b) (place h e) s t)
    ∙ sign_times t (area_of h a b e) (unit_area h a b e u)

-- the point is an end, where its coordinates say so
end_of : (h : Patch) (a b e p : ℕ) (s t : ℤ) → place h p ≡ reached (place h a) (place h b) (place h e) s t → (s ≡ pos 0) ⊎ (s ≡ pos 1) → t ≡ pos 0
    → (place h p ≡ place h a) ⊎ (place h p ≡ place h b)
end_of h a b e p s t r (inl x) y = inl (r ∙ (λ i. reached (place h a) (place h b) (place h e) (x i) (y i)) ∙ reached_first (place h a) (place h b) (place h e))
end_of h a b e p s t r (inr x) y = inr (r ∙ (λ i. reached (place h a) (place h b) (place h e) (x i) (y i)) ∙ reached_second (place h a) (place h b) (place h e))

pub only_factor : (n : ℕ) (x : ℤ) → 0 < n → pos n *ℤ x ≡ pos 0 → x ≡ pos 0
only_factor n x h e = ⊎_elim (λ p. absurd (omega (arith, ints, p))) (λ p. p) (zero_factor (pos n) x e)

module _ (h : Patch) (apart : AreApart h) (a b e c d f : ℕ) (u : IsUnit h a b e) (v : IsUnit h c d f) where
  -- where (c, d) lies on the line of (a, b), it is as long
  line_step : (c1 c2 d1 d2 f1 f2 : ℤ) → place h c ≡ reached (place h a) (place h b) (place h e) c1 c2 → place h d ≡ reached (place h a) (place h b) (place h e) d1 d2
      → place h f ≡ reached (place h a) (place h b) (place h e) f1 f2 → c2 ≡ pos 0 → d2 ≡ pos 0 → (d1 -ℤ c1) *ℤ f2 ≡ pos 1
  line_step c1 c2 d1 d2 f1 f2 rc rd rf zc zd =
      let q = axes h in let A = place h a in let B = place h b in let E = place h e in
      let whole : area_of h c d f ≡ ((d1 -ℤ c1) *ℤ (f2 -ℤ c2) -ℤ (d2 -ℤ c2) *ℤ (f1 -ℤ c1)) *ℤ area_of h a b e =
      (λ i. area q (rc i) (rd i) (rf i)) ∙ area_multiple q A B E c1 c2 d1 d2 f1 f2 in
      let same : pos 1 *ℤ area_of h a b e ≡ ((d1 -ℤ c1) *ℤ (f2 -ℤ c2) -ℤ (d2 -ℤ c2) *ℤ (f1 -ℤ c1)) *ℤ area_of h a b e =
      one (area_of h a b e) ∙ unit_areas h a b e c d f u v ∙ whole in
      sym (cancel (pos 1) ((d1 -ℤ c1) *ℤ (f2 -ℤ c2) -ℤ (d2 -ℤ c2) *ℤ (f1 -ℤ c1)) (area_of h a b e) (unit_area h a b e u) same
      ∙ (λ i. (d1 -ℤ c1) *ℤ (f2 -ℤ zc i) -ℤ (zd i -ℤ zc i) *ℤ (f1 -ℤ c1)) ∙ flat_form c1 d1 f1 f2)
    where
      one : (w : ℤ) → pos 1 *ℤ w ≡ w
      one w = omega (arith, ints)

      flat_form : (x y z w : ℤ) → (y -ℤ x) *ℤ (w -ℤ pos 0) -ℤ (pos 0 -ℤ pos 0) *ℤ (z -ℤ x) ≡ (y -ℤ x) *ℤ w
      flat_form x y z w =
          ring (x ∷ y ∷ z ∷ w ∷ [])
          (minus (times (minus (var 1) (var 0)) (minus (var 3) (num (pos 0)))) (times (minus (num (pos 0)) (num (pos 0))) (minus (var 2) (var 0))))
          (times (minus (var 1) (var 0)) (var 3)) refl

  half_crossing : ¬ (HaveSameEnds a b c d) → DoCross (place h a) (place h b) (place h c) (place h d) → AreOpposite (turn h a b c) (turn h a b d)
  half_crossing other x = by_reach (u.reaches c v.points.0) (u.reaches d v.points.1) (u.reaches f v.points.2)
    where
      same_point : (p q : ℕ) → IsOf h p → IsOf h q → place h p ≡ place h q → q ≡ p
      same_point p q o r m = sym (apart p q o r m)

      -- the end of (c, d) that is met is an end of (a, b)
      no_common : (p : ℕ) → (place h p ≡ place h a) ⊎ (place h p ≡ place h b) → mixed x.n x.t (place h c) (place h d) ≡ multiple (pos x.n) (place h p)
          → (p ≡ c) ⊎ (p ≡ d) → ⊥
      no_common p k m w =
          let P : Vector → Type 0 = λ z. mixed x.n x.s (place h a) (place h b) ≡ multiple (pos x.n) z in
          let z : mixed x.n x.s (place h a) (place h b) ≡ multiple (pos x.n) (place h p) = x.meet ∙ m in
          let Q : ℕ → Type 0 = λ r. mixed x.n x.s (place h a) (place h b) ≡ multiple (pos x.n) (place h r) in
          x.no_end (⊎_elim (λ g. inl (subst P g z)) (λ g. inr (subst P g z)) k, ⊎_elim (λ g. inl (subst Q g z)) (λ g. inr (subst Q g z)) w)

      by_reach : ((s : ℤ) × (t : ℤ) × (place h c ≡ reached (place h a) (place h b) (place h e) s t)) → ((s : ℤ) × (t : ℤ) × (place h d ≡ reached (place h a) (place h b) (place h e) s t))
          → ((s : ℤ) × (t : ℤ) × (place h f ≡ reached (place h a) (place h b) (place h e) s t)) → AreOpposite (turn h a b c) (turn h a b d)
      by_reach (c1, c2, rc) (d1, d2, rd) (f1, f2, rf) = by_place (where_between x.n x.t x.range.2)
        where
          m : Meets x.n x.s x.t c1 c2 d1 d2
          m = meets_at (axes h) (place h a) (place h b) (place h e) (place h c) (place h d) x.n x.s x.t c1 c2 d1 d2 (unit_area h a b e u) rc rd x.meet

          at_first : x.t ≡ 0 → ⊥
          at_first z =
              let along : pos x.s ≡ pos x.n *ℤ c1 = m.along ∙ ap (λ k. (pos x.n -ℤ pos k) *ℤ c1 +ℤ pos k *ℤ d1) z ∙ first_weight (pos x.n) c1 d1 in
              let across : pos x.n *ℤ c2 ≡ pos 0 = sym (ap (λ k. (pos x.n -ℤ pos k) *ℤ c2 +ℤ pos k *ℤ d2) z ∙ first_weight (pos x.n) c2 d2) ∙ m.across in
              no_common c (end_of h a b e c c1 c2 rc (first_multiple x.n x.s c1 x.range.0 x.range.1 along) (only_factor x.n c2 x.range.0 across))
              (mixed_first x.n x.t (place h c) (place h d) z) (inl refl)

          at_last : x.t ≡ x.n → ⊥
          at_last z =
              let along : pos x.s ≡ pos x.n *ℤ d1 = m.along ∙ ap (λ k. (pos x.n -ℤ pos k) *ℤ c1 +ℤ pos k *ℤ d1) z ∙ last_weight (pos x.n) c1 d1 in
              let across : pos x.n *ℤ d2 ≡ pos 0 = sym (ap (λ k. (pos x.n -ℤ pos k) *ℤ c2 +ℤ pos k *ℤ d2) z ∙ last_weight (pos x.n) c2 d2) ∙ m.across in
              no_common d (end_of h a b e d d1 d2 rd (first_multiple x.n x.s d1 x.range.0 x.range.1 along) (only_factor x.n d2 x.range.0 across))
              (mixed_last x.n x.t (place h c) (place h d) z) (inr refl)

          at_line : 0 < x.t → x.t < x.n → c2 ≡ pos 0 → d2 ≡ pos 0 → ⊥
          at_line k l zc zd = by (unit_factor (d1 -ℤ c1) f2 (line_step c1 c2 d1 d2 f1 f2 rc rd rf zc zd))
            where
              left : ℕ
              left = x.n - x.t

              weight : (n t : ℕ) → t < n → pos n -ℤ pos t ≡ pos (n - t)
              weight n t g = omega (arith, ints)

              more : (y z : ℤ) → z -ℤ y ≡ pos 1 → z ≡ y +ℤ pos 1
              more y z g = omega (arith, ints, g)

              less : (y z : ℤ) → z -ℤ y ≡ negsuc 0 → z ≡ y -ℤ pos 1
              less y z g = omega (arith, ints, g)

              one : (y z : ℤ) → z -ℤ y ≡ pos 1 → y ≡ pos 0 → z ≡ pos 1
              one y z g i = omega (arith, ints, g, i)

              none : (y z : ℤ) → z -ℤ y ≡ negsuc 0 → y ≡ pos 1 → z ≡ pos 0
              none y z g i = omega (arith, ints, g, i)

              along : (z : ℤ) → d1 ≡ z → pos x.s ≡ pos (x.n - x.t) *ℤ c1 +ℤ pos x.t *ℤ z
              along z g = m.along ∙ (λ i. weight x.n x.t l i *ℤ c1 +ℤ pos x.t *ℤ g i)

              within : (n t s : ℕ) → t < n → s ≤ n → s ≤ (n - t) + t
              within n t s g i = omega arith

              some : (n t : ℕ) → t < n → 0 < n - t
              some n t g = omega arith

              by : ((d1 -ℤ c1) ≡ pos 1) ⊎ ((d1 -ℤ c1) ≡ negsuc 0) → ⊥
              by (inl g) =
                  let zero_c = next_multiple (x.n - x.t) x.t x.s c1 (some x.n x.t l) k (within x.n x.t x.s l x.range.1) (along (c1 +ℤ pos 1) (more c1 d1 g)) in
                  let A = place h a in let B = place h b in let E = place h e in
                  let pc : place h c ≡ place h a = rc ∙ (λ i. reached A B E (zero_c i) (zc i)) ∙ reached_first A B E in
                  let pd : place h d ≡ place h b = rd ∙ (λ i. reached A B E (one c1 d1 g zero_c i) (zd i)) ∙ reached_second A B E in
                  other (inl (same_point c a v.points.0 u.points.0 pc, same_point d b v.points.1 u.points.1 pd))
              by (inr g) =
                  let one_c = last_multiple (x.n - x.t) x.t x.s c1 (some x.n x.t l) k (within x.n x.t x.s l x.range.1) (along (c1 -ℤ pos 1) (less c1 d1 g)) in
                  let A = place h a in let B = place h b in let E = place h e in
                  let pc : place h c ≡ place h b = rc ∙ (λ i. reached A B E (one_c i) (zc i)) ∙ reached_second A B E in
                  let pd : place h d ≡ place h a = rd ∙ (λ i. reached A B E (none c1 d1 g one_c i) (zd i)) ∙ reached_first A B E in
                  other (inr (same_point d a v.points.1 u.points.0 pd, same_point c b v.points.0 u.points.1 pc))

          by_place : (x.t ≡ 0) ⊎ ((x.t ≡ x.n) ⊎ ((0 < x.t) × (x.t < x.n))) → AreOpposite (turn h a b c) (turn h a b d)
          by_place (inl z) = absurd (at_first z)
          by_place (inr (inl z)) = absurd (at_last z)
          by_place (inr (inr (k, l))) = by_signs (signs (x.n - x.t) x.t c2 d2 (some x.n x.t l) k (ap (λ z. z *ℤ c2 +ℤ pos x.t *ℤ d2) (sym (weight x.n x.t l)) ∙ m.across))
            where
              some : (n t : ℕ) → t < n → 0 < n - t
              some n t g = omega arith

              weight : (n t : ℕ) → t < n → pos n -ℤ pos t ≡ pos (n - t)
              weight n t g = omega (arith, ints)

              turned : AreOpposite (sign c2) (sign d2) → AreOpposite (turn h a b c) (turn h a b d)
              turned o =
                  let P : ℤ → Type 0 = λ z. AreOpposite z (turn h a b d) in let Q : ℤ → Type 0 = λ z. AreOpposite (sign c2) z in
                  subst P (sym (turn_is h a b e c c1 c2 u rc)) (subst Q (sym (turn_is h a b e d d1 d2 u rd)) o)

              by_signs : ((pos 0 <ℤ c2) × (d2 <ℤ pos 0)) ⊎ (((c2 <ℤ pos 0) × (pos 0 <ℤ d2)) ⊎ ((c2 ≡ pos 0) × (d2 ≡ pos 0))) → AreOpposite (turn h a b c) (turn h a b d)
              by_signs (inl p) = turned (opposite_signs c2 d2 (inl p))
              by_signs (inr (inl p)) = turned (opposite_signs c2 d2 (inr p))
              by_signs (inr (inr p)) = absurd (at_line k l p.0 p.1)

pub crossing_turns : (h : Patch) → AreApart h → (a b e c d f : ℕ) → IsUnit h a b e → IsUnit h c d f → ¬ (HaveSameEnds a b c d) → DoCross (place h a) (place h b) (place h c) (place h d)
    → AreOpposite (turn h a b c) (turn h a b d) × AreOpposite (turn h c d a) (turn h c d b)
crossing_turns h apart a b e c d f u v other x = (
  half_crossing h apart a b e c d f u v other x,
  half_crossing h apart c d f a b e v u (λ s. other (⊎_elim (λ p. inl (sym p.0, sym p.1)) (λ p. inr (sym p.1, sym p.0)) s)) (cross_swap (place h a) (place h b) (place h c) (place h d) x),
)

-- ---- sides that lie on both sides of each other cross

number_back : (n s t a b e c1 c2 d1 d2 : ℤ) → s ≡ (n -ℤ t) *ℤ c1 +ℤ t *ℤ d1 → (n -ℤ t) *ℤ c2 +ℤ t *ℤ d2 ≡ pos 0
    → (n -ℤ s) *ℤ a +ℤ s *ℤ b ≡ (n -ℤ t) *ℤ (a +ℤ (c1 *ℤ (b -ℤ a) +ℤ c2 *ℤ (e -ℤ a))) +ℤ t *ℤ (a +ℤ (d1 *ℤ (b -ℤ a) +ℤ d2 *ℤ (e -ℤ a)))
number_back n s t a b e c1 c2 d1 d2 along across =
    ring (n ∷ s ∷ a ∷ b ∷ e ∷ []) (plus (times (minus (var 0) (var 1)) (var 2)) (times (var 1) (var 3)))
    (plus (plus (times (var 0) (var 2)) (times (var 1) (minus (var 3) (var 2)))) (times (num (pos 0)) (minus (var 4) (var 2)))) refl
    ∙ (λ i. n *ℤ a +ℤ along i *ℤ (b -ℤ a) +ℤ sym across i *ℤ (e -ℤ a))
    ∙ sym (ring (n ∷ t ∷ a ∷ b ∷ e ∷ c1 ∷ c2 ∷ d1 ∷ d2 ∷ [])
    (plus (times (minus (var 0) (var 1)) (plus (var 2) (plus (times (var 5) (minus (var 3) (var 2))) (times (var 6) (minus (var 4) (var 2))))))
    (times (var 1) (plus (var 2) (plus (times (var 7) (minus (var 3) (var 2))) (times (var 8) (minus (var 4) (var 2)))))))
    (plus (plus (times (var 0) (var 2)) (times (plus (times (minus (var 0) (var 1)) (var 5)) (times (var 1) (var 7))) (minus (var 3) (var 2))))
    (times (plus (times (minus (var 0) (var 1)) (var 6)) (times (var 1) (var 8))) (minus (var 4) (var 2)))) refl)

meets_back : (a b e c d : Vector) (n s t : ℕ) (c1 c2 d1 d2 : ℤ) → c ≡ reached a b e c1 c2 → d ≡ reached a b e d1 d2 → Meets n s t c1 c2 d1 d2 → mixed n s a b ≡ mixed n t c d
meets_back a b e c d n s t c1 c2 d1 d2 rc rd m =
    (λ i. record {
      x1 = number_back (pos n) (pos s) (pos t) a.x1 b.x1 e.x1 c1 c2 d1 d2 m.along m.across i;
      x2 = number_back (pos n) (pos s) (pos t) a.x2 b.x2 e.x2 c1 c2 d1 d2 m.along m.across i;
      x3 = number_back (pos n) (pos s) (pos t) a.x3 b.x3 e.x3 c1 c2 d1 d2 m.along m.across i;
      x4 = number_back (pos n) (pos s) (pos t) a.x4 b.x4 e.x4 c1 c2 d1 d2 m.along m.across i;
    })
    ∙ (λ i. mixed n t (sym rc i) (sym rd i))

first_end : (n s : ℕ) (a b : ℤ) → 0 < s → (pos n -ℤ pos s) *ℤ a +ℤ pos s *ℤ b ≡ pos n *ℤ a → a ≡ b
first_end n s a b h e =
    let r : pos s *ℤ (b -ℤ a) ≡ (pos n -ℤ pos s) *ℤ a +ℤ pos s *ℤ b -ℤ pos n *ℤ a =
    ring (pos n ∷ pos s ∷ a ∷ b ∷ []) (times (var 1) (minus (var 3) (var 2))) (minus (plus (times (minus (var 0) (var 1)) (var 2)) (times (var 1) (var 3))) (times (var 0) (var 2))) refl in
    same (only_factor s (b -ℤ a) h (r ∙ gone ((pos n -ℤ pos s) *ℤ a +ℤ pos s *ℤ b) (pos n *ℤ a) e))
  where
    gone : (x y : ℤ) → x ≡ y → x -ℤ y ≡ pos 0
    gone x y f = omega (arith, ints, f)

    same : b -ℤ a ≡ pos 0 → a ≡ b
    same f = omega (arith, ints, f)

last_end : (n s : ℕ) (a b : ℤ) → s < n → (pos n -ℤ pos s) *ℤ a +ℤ pos s *ℤ b ≡ pos n *ℤ b → a ≡ b
last_end n s a b h e =
    let r : (pos n -ℤ pos s) *ℤ (a -ℤ b) ≡ (pos n -ℤ pos s) *ℤ a +ℤ pos s *ℤ b -ℤ pos n *ℤ b =
    ring (pos n ∷ pos s ∷ a ∷ b ∷ []) (times (minus (var 0) (var 1)) (minus (var 2) (var 3))) (minus (plus (times (minus (var 0) (var 1)) (var 2)) (times (var 1) (var 3))) (times (var 0) (var 3))) refl in
    same (only_factor (n - s) (a -ℤ b) (some n s h) (ap (λ z. z *ℤ (a -ℤ b)) (sym (weight n s h)) ∙ r ∙ gone ((pos n -ℤ pos s) *ℤ a +ℤ pos s *ℤ b) (pos n *ℤ b) e))
  where
    weight : (n t : ℕ) → t < n → pos n -ℤ pos t ≡ pos (n - t)
    weight n t g = omega (arith, ints)

    some : (n t : ℕ) → t < n → 0 < n - t
    some n t g = omega arith

    gone : (x y : ℤ) → x ≡ y → x -ℤ y ≡ pos 0
    gone x y f = omega (arith, ints, f)

    same : a -ℤ b ≡ pos 0 → a ≡ b
    same f = omega (arith, ints, f)

-- a point between the ends is no end, where the ends are two
no_end_between : (n s : ℕ) (a b : Vector) → 0 < s → s < n → a ≢ b → IsEndOf n (mixed n s a b) a b → ⊥
no_end_between n s a b h k ne (inl e) =
    ne (λ i. record {
      x1 = first_end n s a.x1 b.x1 h (ap (λ v. v.x1) e) i;
      x2 = first_end n s a.x2 b.x2 h (ap (λ v. v.x2) e) i;
      x3 = first_end n s a.x3 b.x3 h (ap (λ v. v.x3) e) i;
      x4 = first_end n s a.x4 b.x4 h (ap (λ v. v.x4) e) i;
    })
no_end_between n s a b h k ne (inr e) =
    ne (λ i. record {
      x1 = last_end n s a.x1 b.x1 k (ap (λ v. v.x1) e) i;
      x2 = last_end n s a.x2 b.x2 k (ap (λ v. v.x2) e) i;
      x3 = last_end n s a.x3 b.x3 k (ap (λ v. v.x3) e) i;
      x4 = last_end n s a.x4 b.x4 k (ap (λ v. v.x4) e) i;
    })

crossing_from : (h : Patch) → AreApart h → (a b e c d n s t : ℕ) (c1 c2 d1 d2 : ℤ) → IsUnit h a b e → place h c ≡ reached (place h a) (place h b) (place h e) c1 c2
    → place h d ≡ reached (place h a) (place h b) (place h e) d1 d2 → Meets n s t c1 c2 d1 d2 → 0 < s → s < n → t ≤ n → DoCross (place h a) (place h b) (place h c) (place h d)
crossing_from h apart a b e c d n s t c1 c2 d1 d2 u rc rd m k l g = record {
  n = n;
  s = s;
  t = t;
  range = (omega arith, omega arith, g);
  meet = meets_back (place h a) (place h b) (place h e) (place h c) (place h d) n s t c1 c2 d1 d2 rc rd m;
  no_end = λ p. no_end_between n s (place h a) (place h b) k l (λ q. (unit_three h (record { a = a; b = b; c = e }) u).0 (apart a b u.points.0 u.points.1 q)) p.0;
}

abbrev cross_of : ℤ → ℤ → ℤ → ℤ → ℤ
cross_of c1 c2 d1 d2 = c1 *ℤ d2 -ℤ c2 *ℤ d1

first_turn : (h : Patch) (a b e c d : ℕ) (c1 c2 d1 d2 : ℤ) → IsUnit h a b e → place h c ≡ reached (place h a) (place h b) (place h e) c1 c2
    → place h d ≡ reached (place h a) (place h b) (place h e) d1 d2 → turn h c d a ≡ sign (cross_of c1 c2 d1 d2)
first_turn h a b e c d c1 c2 d1 d2 u rc rd =
    let q = axes h in let A = place h a in let B = place h b in let E = place h e in
    ap sign ((λ i. area q (rc i) (rd i) (sym (reached_first A B E) i)) ∙ area_multiple q A B E c1 c2 d1 d2 (pos 0) (pos 0))
    ∙ sign_times ((d1 -ℤ c1) *ℤ (pos 0 -ℤ c2) -ℤ (d2 -ℤ c2) *ℤ (pos 0 -ℤ c1)) (area_of h a b e) (unit_area h a b e u)
    ∙ ap sign (ring (c1 ∷ c2 ∷ d1 ∷ d2 ∷ [])
    (minus (times (minus (var 2) (var 0)) (minus (num (pos 0)) (var 1))) (times (minus (var 3) (var 1)) (minus (num (pos 0)) (var 0))))
    (minus (times (var 0) (var 3)) (times (var 1) (var 2))) refl)

second_turn : (h : Patch) (a b e c d : ℕ) (c1 c2 d1 d2 : ℤ) → IsUnit h a b e → place h c ≡ reached (place h a) (place h b) (place h e) c1 c2
    → place h d ≡ reached (place h a) (place h b) (place h e) d1 d2 → turn h c d b ≡ sign (cross_of c1 c2 d1 d2 -ℤ d2 +ℤ c2)
second_turn h a b e c d c1 c2 d1 d2 u rc rd =
    let q = axes h in let A = place h a in let B = place h b in let E = place h e in
    ap sign ((λ i. area q (rc i) (rd i) (sym (reached_second A B E) i)) ∙ area_multiple q A B E c1 c2 d1 d2 (pos 1) (pos 0))
    ∙ sign_times ((d1 -ℤ c1) *ℤ (pos 0 -ℤ c2) -ℤ (d2 -ℤ c2) *ℤ (pos 1 -ℤ c1)) (area_of h a b e) (unit_area h a b e u)
    ∙ ap sign (ring (c1 ∷ c2 ∷ d1 ∷ d2 ∷ [])
    (minus (times (minus (var 2) (var 0)) (minus (num (pos 0)) (var 1))) (times (minus (var 3) (var 1)) (minus (num (pos 1)) (var 0))))
    (plus (minus (minus (times (var 0) (var 3)) (times (var 1) (var 2))) (var 3)) (var 1)) refl)

-- the numbers of a meeting point, where (c, d) goes from the left to the right of (a, b)
meets_left : (i j r : ℕ) (c1 c2 d1 d2 : ℤ) → c2 ≡ pos (suc i) → d2 ≡ negsuc j → cross_of c1 c2 d1 d2 ≡ negsuc r → Meets (suc i + suc j) (suc r) (suc i) c1 c2 d1 d2
meets_left i j r c1 c2 d1 d2 ec ed eg =
    let left : pos (suc i + suc j) -ℤ pos (suc i) ≡ neg_ℤ d2 = rest i j d2 ed in
    record {
      along = turned r (cross_of c1 c2 d1 d2) eg
          ∙ ring (c1 ∷ c2 ∷ d1 ∷ d2 ∷ []) (neg (minus (times (var 0) (var 3)) (times (var 1) (var 2)))) (plus (times (neg (var 3)) (var 0)) (times (var 1) (var 2))) refl
          ∙ (λ k. sym left k *ℤ c1 +ℤ ec k *ℤ d1);
      across = (λ k. left k *ℤ c2 +ℤ sym ec k *ℤ d2)
          ∙ ring (c2 ∷ d2 ∷ []) (plus (times (neg (var 1)) (var 0)) (times (var 0) (var 1))) (num (pos 0)) refl;
    }
  where
    rest : (i j : ℕ) (z : ℤ) → z ≡ negsuc j → pos (suc i + suc j) -ℤ pos (suc i) ≡ neg_ℤ z
    rest i j z e = omega (arith, ints, e)

    turned : (r : ℕ) (z : ℤ) → z ≡ negsuc r → pos (suc r) ≡ neg_ℤ z
    turned r z e = omega (arith, ints, e)

meets_right : (i j r : ℕ) (c1 c2 d1 d2 : ℤ) → c2 ≡ negsuc i → d2 ≡ pos (suc j) → cross_of c1 c2 d1 d2 ≡ pos (suc r) → Meets (suc i + suc j) (suc r) (suc i) c1 c2 d1 d2
meets_right i j r c1 c2 d1 d2 ec ed eg =
    let left : pos (suc i + suc j) -ℤ pos (suc i) ≡ d2 = rest i j d2 ed in
    let weight : pos (suc i) ≡ neg_ℤ c2 = turned i c2 ec in
    record {
      along = sym eg
          ∙ ring (c1 ∷ c2 ∷ d1 ∷ d2 ∷ []) (minus (times (var 0) (var 3)) (times (var 1) (var 2))) (plus (times (var 3) (var 0)) (times (neg (var 1)) (var 2))) refl
          ∙ (λ k. sym left k *ℤ c1 +ℤ sym weight k *ℤ d1);
      across = (λ k. left k *ℤ c2 +ℤ weight k *ℤ d2)
          ∙ ring (c2 ∷ d2 ∷ []) (plus (times (var 1) (var 0)) (times (neg (var 0)) (var 1))) (num (pos 0)) refl;
    }
  where
    rest : (i j : ℕ) (z : ℤ) → z ≡ pos (suc j) → pos (suc i + suc j) -ℤ pos (suc i) ≡ z
    rest i j z e = omega (arith, ints, e)

    turned : (i : ℕ) (z : ℤ) → z ≡ negsuc i → pos (suc i) ≡ neg_ℤ z
    turned i z e = omega (arith, ints, e)

pub turns_crossing : (h : Patch) → AreApart h → (a b e c d : ℕ) → IsUnit h a b e → IsOf h c → IsOf h d
    → AreOpposite (turn h a b c) (turn h a b d) → AreOpposite (turn h c d a) (turn h c d b) → DoCross (place h a) (place h b) (place h c) (place h d)
turns_crossing h apart a b e c d u oc od first second = by_reach (u.reaches c oc) (u.reaches d od)
  where
    by_reach : ((s : ℤ) × (t : ℤ) × (place h c ≡ reached (place h a) (place h b) (place h e) s t)) → ((s : ℤ) × (t : ℤ) × (place h d ≡ reached (place h a) (place h b) (place h e) s t))
        → DoCross (place h a) (place h b) (place h c) (place h d)
    by_reach (c1, c2, rc) (d1, d2, rd) = by first second
      where
        k1 : turn h a b c ≡ sign c2
        k1 = turn_is h a b e c c1 c2 u rc

        k2 : turn h a b d ≡ sign d2
        k2 = turn_is h a b e d d1 d2 u rd

        k3 : turn h c d a ≡ sign (cross_of c1 c2 d1 d2)
        k3 = first_turn h a b e c d c1 c2 d1 d2 u rc rd

        k4 : turn h c d b ≡ sign (cross_of c1 c2 d1 d2 -ℤ d2 +ℤ c2)
        k4 = second_turn h a b e c d c1 c2 d1 d2 u rc rd

        by : AreOpposite (turn h a b c) (turn h a b d) → AreOpposite (turn h c d a) (turn h c d b) → DoCross (place h a) (place h b) (place h c) (place h d)
        by (inl (p, q)) (inr (r, s)) =
            let i = positive_is c2 (sym k1 ∙ p) in
            let j = negative_is d2 (sym k2 ∙ q) in
            let m = negative_is (cross_of c1 c2 d1 d2) (sym k3 ∙ r) in
            let l = positive_is (cross_of c1 c2 d1 d2 -ℤ d2 +ℤ c2) (sym k4 ∙ s) in
            let e2 : pos (suc l.0) ≡ negsuc m.0 -ℤ negsuc j.0 +ℤ pos (suc i.0) = sym l.1 ∙ (λ x. m.1 x -ℤ j.1 x +ℤ i.1 x) in
            crossing_from h apart a b e c d (suc i.0 + suc j.0) (suc m.0) (suc i.0) c1 c2 d1 d2 u rc rd (meets_left i.0 j.0 m.0 c1 c2 d1 d2 i.1 j.1 m.1) (some m.0) (below i.0 j.0 m.0 l.0 e2) (part i.0 j.0)
          where
            some : (x : ℕ) → 0 < suc x
            some x = omega arith

            below : (x y z w : ℕ) → pos (suc w) ≡ negsuc z -ℤ negsuc y +ℤ pos (suc x) → suc z < suc x + suc y
            below x y z w f = omega (arith, ints, f)

            part : (x y : ℕ) → suc x ≤ suc x + suc y
            part x y = omega arith
        by (inr (p, q)) (inl (r, s)) =
            let i = negative_is c2 (sym k1 ∙ p) in
            let j = positive_is d2 (sym k2 ∙ q) in
            let m = positive_is (cross_of c1 c2 d1 d2) (sym k3 ∙ r) in
            let l = negative_is (cross_of c1 c2 d1 d2 -ℤ d2 +ℤ c2) (sym k4 ∙ s) in
            let e2 : negsuc l.0 ≡ pos (suc m.0) -ℤ pos (suc j.0) +ℤ negsuc i.0 = sym l.1 ∙ (λ x. m.1 x -ℤ j.1 x +ℤ i.1 x) in
            crossing_from h apart a b e c d (suc i.0 + suc j.0) (suc m.0) (suc i.0) c1 c2 d1 d2 u rc rd (meets_right i.0 j.0 m.0 c1 c2 d1 d2 i.1 j.1 m.1) (some m.0) (below i.0 j.0 m.0 l.0 e2) (part i.0 j.0)
          where
            some : (x : ℕ) → 0 < suc x
            some x = omega arith

            below : (x y z w : ℕ) → negsuc w ≡ pos (suc z) -ℤ pos (suc y) +ℤ negsuc x → suc z < suc x + suc y
            below x y z w f = omega (arith, ints, f)

            part : (x y : ℕ) → suc x ≤ suc x + suc y
            part x y = omega arith
        by (inl (p, q)) (inl (r, s)) =
            let i = positive_is c2 (sym k1 ∙ p) in
            let j = negative_is d2 (sym k2 ∙ q) in
            let m = positive_is (cross_of c1 c2 d1 d2) (sym k3 ∙ r) in
            let l = negative_is (cross_of c1 c2 d1 d2 -ℤ d2 +ℤ c2) (sym k4 ∙ s) in
            absurd (never i.0 j.0 m.0 l.0 (sym l.1 ∙ (λ x. m.1 x -ℤ j.1 x +ℤ i.1 x)))
          where
            never : (x y z w : ℕ) → negsuc w ≡ pos (suc z) -ℤ negsuc y +ℤ pos (suc x) → ⊥
            never x y z w f = absurd (omega (arith, ints, f))
        by (inr (p, q)) (inr (r, s)) =
            let i = negative_is c2 (sym k1 ∙ p) in
            let j = positive_is d2 (sym k2 ∙ q) in
            let m = negative_is (cross_of c1 c2 d1 d2) (sym k3 ∙ r) in
            let l = positive_is (cross_of c1 c2 d1 d2 -ℤ d2 +ℤ c2) (sym k4 ∙ s) in
            absurd (never i.0 j.0 m.0 l.0 (sym l.1 ∙ (λ x. m.1 x -ℤ j.1 x +ℤ i.1 x)))
          where
            never : (x y z w : ℕ) → pos (suc w) ≡ negsuc z -ℤ pos (suc y) +ℤ negsuc x → ⊥
            never x y z w f = absurd (omega (arith, ints, f))
