-- Unit triples of a face: areas, whole coordinates, and the points outside them.
use Rattle.std.proofs.Common.{◌≡◌, ℕ, zero, suc, ◌⊎◌, inl, inr, refl, sym, ap, ◌∙◌, arith, ℤ, pos, negsuc, ◌+ℤ◌, ◌-ℤ◌, ◌*ℤ◌, ◌<ℤ◌, ◌≤ℤ◌, [], ◌∷◌}
use Rattle.std.proofs.lemmas.Int.{ints}
use Rattle.ntfe_nums.specs.Vectors.{Vector, vector_sum, multiple, area, sign}
use Rattle.ntfe_model.specs.Charts.{Patch, axes, place, reached, IsOf, IsUnit}
use Rattle.ntfe_model.specs.Charts.{AreApart}
use Rattle.ntfe_nums.proofs.Ring.{ring}
use Rattle.ntfe_nums.proofs.Ring.Expression.{var, num, plus, minus, times}
use Rattle.ntfe_nums.proofs.Signs.{negative_or}
use Rattle.ntfe_model.proofs.PlaneNumbers.{positive_sign, negative_product, cancel, equal_multiples, area_turn, area_first, area_second, area_third, area_multiple}

abbrev pub area_of : Patch → ℕ → ℕ → ℕ → ℤ
area_of h a b c = area (axes h) (place h a) (place h b) (place h c)

-- ---- reached vectors

-- a + s (b - a) + t (c - a) from the next corner
turn_number : (a b c s t : ℤ) → a +ℤ (s *ℤ (b -ℤ a) +ℤ t *ℤ (c -ℤ a)) ≡ b +ℤ (t *ℤ (c -ℤ b) +ℤ (pos 1 -ℤ s -ℤ t) *ℤ (a -ℤ b))
turn_number a b c s t =
    ring (a ∷ b ∷ c ∷ s ∷ t ∷ [])
    (plus (var 0) (plus (times (var 3) (minus (var 1) (var 0))) (times (var 4) (minus (var 2) (var 0)))))
    (plus (var 1) (plus (times (var 4) (minus (var 2) (var 1))) (times (minus (minus (num (pos 1)) (var 3)) (var 4)) (minus (var 0) (var 1))))) refl

pub reached_turn : (a b c : Vector) (s t : ℤ) → reached a b c s t ≡ reached b c a t (pos 1 -ℤ s -ℤ t)
reached_turn a b c s t =
    λ i. record { x1 = turn_number a.x1 b.x1 c.x1 s t i; x2 = turn_number a.x2 b.x2 c.x2 s t i; x3 = turn_number a.x3 b.x3 c.x3 s t i; x4 = turn_number a.x4 b.x4 c.x4 s t i }

first_number : (a b c : ℤ) → a +ℤ (pos 0 *ℤ (b -ℤ a) +ℤ pos 0 *ℤ (c -ℤ a)) ≡ a
first_number a b c =
    ring (a ∷ b ∷ c ∷ [])
    (plus (var 0) (plus (times (num (pos 0)) (minus (var 1) (var 0))) (times (num (pos 0)) (minus (var 2) (var 0))))) (var 0) refl

second_number : (a b c : ℤ) → a +ℤ (pos 1 *ℤ (b -ℤ a) +ℤ pos 0 *ℤ (c -ℤ a)) ≡ b
second_number a b c =
    ring (a ∷ b ∷ c ∷ [])
    (plus (var 0) (plus (times (num (pos 1)) (minus (var 1) (var 0))) (times (num (pos 0)) (minus (var 2) (var 0))))) (var 1) refl

third_number : (a b c : ℤ) → a +ℤ (pos 0 *ℤ (b -ℤ a) +ℤ pos 1 *ℤ (c -ℤ a)) ≡ c
third_number a b c =
    ring (a ∷ b ∷ c ∷ [])
    (plus (var 0) (plus (times (num (pos 0)) (minus (var 1) (var 0))) (times (num (pos 1)) (minus (var 2) (var 0))))) (var 2) refl

pub reached_first : (a b c : Vector) → reached a b c (pos 0) (pos 0) ≡ a
reached_first a b c =
    λ i. record { x1 = first_number a.x1 b.x1 c.x1 i; x2 = first_number a.x2 b.x2 c.x2 i; x3 = first_number a.x3 b.x3 c.x3 i; x4 = first_number a.x4 b.x4 c.x4 i }

pub reached_second : (a b c : Vector) → reached a b c (pos 1) (pos 0) ≡ b
reached_second a b c =
    λ i. record { x1 = second_number a.x1 b.x1 c.x1 i; x2 = second_number a.x2 b.x2 c.x2 i; x3 = second_number a.x3 b.x3 c.x3 i; x4 = second_number a.x4 b.x4 c.x4 i }

pub reached_third : (a b c : Vector) → reached a b c (pos 0) (pos 1) ≡ c
reached_third a b c =
    λ i. record { x1 = third_number a.x1 b.x1 c.x1 i; x2 = third_number a.x2 b.x2 c.x2 i; x3 = third_number a.x3 b.x3 c.x3 i; x4 = third_number a.x4 b.x4 c.x4 i }

-- where the area is not 0, a reached vector has one pair of coordinates
pub reached_once : (q : ℕ × ℕ) (a b c : Vector) (s t s' t' : ℤ) → pos 0 <ℤ area q a b c → reached a b c s t ≡ reached a b c s' t' → (s ≡ s') × (t ≡ t')
reached_once q a b c s t s' t' h e = (
  cancel s s' (area q a b c) h (sym (area_second q a b c s t) ∙ ap (area q c a) e ∙ area_second q a b c s' t'),
  cancel t t' (area q a b c) h (sym (area_third q a b c s t) ∙ ap (area q a b) e ∙ area_third q a b c s' t'),
)

-- c + d = α a + β b with α + β = 2 says that d is reached from a by β and -1
balance_number : (a b c d m n : ℤ) → c +ℤ d ≡ m *ℤ a +ℤ n *ℤ b → m ≡ pos 2 -ℤ n → d ≡ a +ℤ (n *ℤ (b -ℤ a) +ℤ negsuc 0 *ℤ (c -ℤ a))
balance_number a b c d m n e f =
    move c d (m *ℤ a +ℤ n *ℤ b) e ∙ ap (λ k. k *ℤ a +ℤ n *ℤ b -ℤ c) f
    ∙ ring (a ∷ b ∷ c ∷ n ∷ [])
    (minus (plus (times (minus (num (pos 2)) (var 3)) (var 0)) (times (var 3) (var 1))) (var 2))
    (plus (var 0) (plus (times (var 3) (minus (var 1) (var 0))) (times (num (negsuc 0)) (minus (var 2) (var 0))))) refl
  where
    move : (x y z : ℤ) → x +ℤ y ≡ z → y ≡ z -ℤ x
    move x y z g = omega (arith, ints, g)

pub balance_reached : (a b c d : Vector) (m n : ℤ) → vector_sum c d ≡ vector_sum (multiple m a) (multiple n b) → m ≡ pos 2 -ℤ n → d ≡ reached a b c n (negsuc 0)
balance_reached a b c d m n e f =
    let e1 = balance_number a.x1 b.x1 c.x1 d.x1 m n (ap (λ v. v.x1) e) f in
    let e2 = balance_number a.x2 b.x2 c.x2 d.x2 m n (ap (λ v. v.x2) e) f in
    let e3 = balance_number a.x3 b.x3 c.x3 d.x3 m n (ap (λ v. v.x3) e) f in
    let e4 = balance_number a.x4 b.x4 c.x4 d.x4 m n (ap (λ v. v.x4) e) f in
    λ i. record { x1 = e1 i; x2 = e2 i; x3 = e3 i; x4 = e4 i }

reached_number : (a b c n : ℤ) → c +ℤ (a +ℤ (n *ℤ (b -ℤ a) +ℤ negsuc 0 *ℤ (c -ℤ a))) ≡ (pos 2 -ℤ n) *ℤ a +ℤ n *ℤ b
reached_number a b c n =
    ring (a ∷ b ∷ c ∷ n ∷ [])
    (plus (var 2) (plus (var 0) (plus (times (var 3) (minus (var 1) (var 0))) (times (num (negsuc 0)) (minus (var 2) (var 0))))))
    (plus (times (minus (num (pos 2)) (var 3)) (var 0)) (times (var 3) (var 1))) refl

pub reached_balance : (a b c d : Vector) (n : ℤ) → d ≡ reached a b c n (negsuc 0) → vector_sum c d ≡ vector_sum (multiple (pos 2 -ℤ n) a) (multiple n b)
reached_balance a b c d n e =
    ap (vector_sum c) e
    ∙ (λ i. record { x1 = reached_number a.x1 b.x1 c.x1 n i; x2 = reached_number a.x2 b.x2 c.x2 n i; x3 = reached_number a.x3 b.x3 c.x3 n i; x4 = reached_number a.x4 b.x4 c.x4 n i })

-- ---- unit triples

pub unit_area : (h : Patch) (a b c : ℕ) → IsUnit h a b c → pos 0 <ℤ area_of h a b c
unit_area h a b c u = positive_sign (area_of h a b c) u.left

pub unit_turn : (h : Patch) (a b c : ℕ) → IsUnit h a b c → IsUnit h b c a
unit_turn h a b c u = record {
  points = (u.points.1, u.points.2, u.points.0);
  left = ap sign (area_turn (axes h) (place h a) (place h b) (place h c)) ∙ u.left;
  reaches = λ p o. let r = u.reaches p o in (r.1, pos 1 -ℤ r.0 -ℤ r.1, r.2 ∙ reached_turn (place h a) (place h b) (place h c) r.0 r.1);
}

-- all unit triples of a face have one area
unit_multiple : (h : Patch) (a b c d e f : ℕ) → IsUnit h a b c → IsUnit h d e f → (k : ℤ) × (area_of h d e f ≡ k *ℤ area_of h a b c)
unit_multiple h a b c d e f u v =
    let x = u.reaches d v.points.0 in
    let y = u.reaches e v.points.1 in
    let z = u.reaches f v.points.2 in
    (_, (λ i. area (axes h) (x.2 i) (y.2 i) (z.2 i)) ∙ area_multiple (axes h) (place h a) (place h b) (place h c) x.0 x.1 y.0 y.1 z.0 z.1)

pub unit_areas : (h : Patch) (a b c d e f : ℕ) → IsUnit h a b c → IsUnit h d e f → area_of h a b c ≡ area_of h d e f
unit_areas h a b c d e f u v =
    let m = unit_multiple h d e f a b c v u in
    let n = unit_multiple h a b c d e f u v in
    equal_multiples (area_of h a b c) (area_of h d e f) m.0 n.0 (unit_area h a b c u) (unit_area h d e f v) m.1 n.1

-- ---- a point with no negative coordinate is a corner

pub corner_numbers : (s t : ℤ) → pos 0 ≤ℤ s → pos 0 ≤ℤ t → pos 0 ≤ℤ (pos 1 -ℤ s -ℤ t)
    → ((s ≡ pos 0) × (t ≡ pos 0)) ⊎ (((s ≡ pos 1) × (t ≡ pos 0)) ⊎ ((s ≡ pos 0) × (t ≡ pos 1)))
corner_numbers (negsuc m) t h k l = absurd (omega (arith, ints, h))
corner_numbers (pos m) (negsuc n) h k l = absurd (omega (arith, ints, k))
corner_numbers (pos zero) (pos zero) h k l = inl (refl, refl)
corner_numbers (pos (suc zero)) (pos zero) h k l = inr (inl (refl, refl))
corner_numbers (pos zero) (pos (suc zero)) h k l = inr (inr (refl, refl))
corner_numbers (pos (suc (suc m))) (pos n) h k l = absurd (omega (arith, ints, l))
corner_numbers (pos (suc zero)) (pos (suc n)) h k l = absurd (omega (arith, ints, l))
corner_numbers (pos zero) (pos (suc (suc n))) h k l = absurd (omega (arith, ints, l))

pub corner_place : (a b c : Vector) (s t : ℤ) → pos 0 ≤ℤ s → pos 0 ≤ℤ t → pos 0 ≤ℤ (pos 1 -ℤ s -ℤ t)
    → (reached a b c s t ≡ a) ⊎ ((reached a b c s t ≡ b) ⊎ (reached a b c s t ≡ c))
corner_place a b c s t h k l = by (corner_numbers s t h k l)
  where
    by : ((s ≡ pos 0) × (t ≡ pos 0)) ⊎ (((s ≡ pos 1) × (t ≡ pos 0)) ⊎ ((s ≡ pos 0) × (t ≡ pos 1)))
        → (reached a b c s t ≡ a) ⊎ ((reached a b c s t ≡ b) ⊎ (reached a b c s t ≡ c))
    by (inl (e, f)) = inl ((λ i. reached a b c (e i) (f i)) ∙ reached_first a b c)
    by (inr (inl (e, f))) = inr (inl ((λ i. reached a b c (e i) (f i)) ∙ reached_second a b c))
    by (inr (inr (e, f))) = inr (inr ((λ i. reached a b c (e i) (f i)) ∙ reached_third a b c))

-- the point lies beyond a side of the triple
abbrev pub IsBeyond : Patch → ℕ → ℕ → ℕ → ℕ → Type 0
IsBeyond h a b c p = (area_of h a b p <ℤ pos 0) ⊎ ((area_of h b c p <ℤ pos 0) ⊎ (area_of h c a p <ℤ pos 0))

-- a point of the face is a corner of a unit triple, or beyond one of its sides
pub corner_or_beyond : (h : Patch) → AreApart h → (a b c p : ℕ) → IsUnit h a b c → IsOf h p → ((p ≡ a) ⊎ ((p ≡ b) ⊎ (p ≡ c))) ⊎ IsBeyond h a b c p
corner_or_beyond h apart a b c p u o = let r = u.reaches p o in beyond_at r.0 r.1 r.2
  where
    beyond_at : (s t : ℤ) → place h p ≡ reached (place h a) (place h b) (place h c) s t → ((p ≡ a) ⊎ ((p ≡ b) ⊎ (p ≡ c))) ⊎ IsBeyond h a b c p
    beyond_at s t lies = by (negative_or t) (negative_or (pos 1 -ℤ s -ℤ t)) (negative_or s)
      where
        below : (x y : ℤ) → x ≡ y → y <ℤ pos 0 → x <ℤ pos 0
        below x y e l = omega (arith, ints, e, l)

        corner : (reached (place h a) (place h b) (place h c) s t ≡ place h a) ⊎ ((reached (place h a) (place h b) (place h c) s t ≡ place h b) ⊎ (reached (place h a) (place h b) (place h c) s t ≡ place h c))
            → (p ≡ a) ⊎ ((p ≡ b) ⊎ (p ≡ c))
        corner (inl e) = inl (apart p a o u.points.0 (lies ∙ e))
        corner (inr (inl e)) = inr (inl (apart p b o u.points.1 (lies ∙ e)))
        corner (inr (inr e)) = inr (inr (apart p c o u.points.2 (lies ∙ e)))

        by : (t <ℤ pos 0) ⊎ (pos 0 ≤ℤ t) → ((pos 1 -ℤ s -ℤ t) <ℤ pos 0) ⊎ (pos 0 ≤ℤ (pos 1 -ℤ s -ℤ t)) → (s <ℤ pos 0) ⊎ (pos 0 ≤ℤ s)
            → ((p ≡ a) ⊎ ((p ≡ b) ⊎ (p ≡ c))) ⊎ IsBeyond h a b c p
        by (inl l) y z = inr (inl (below (area_of h a b p) (t *ℤ area_of h a b c) (ap (area (axes h) (place h a) (place h b)) lies ∙ area_third (axes h) (place h a) (place h b) (place h c) s t) (negative_product t (area_of h a b c) l (unit_area h a b c u))))
        by (inr k) (inl l) z = inr (inr (inl (below (area_of h b c p) ((pos 1 -ℤ s -ℤ t) *ℤ area_of h a b c) (ap (area (axes h) (place h b) (place h c)) lies ∙ area_first (axes h) (place h a) (place h b) (place h c) s t) (negative_product (pos 1 -ℤ s -ℤ t) (area_of h a b c) l (unit_area h a b c u)))))
        by (inr k) (inr l) (inl m) = inr (inr (inr (below (area_of h c a p) (s *ℤ area_of h a b c) (ap (area (axes h) (place h c) (place h a)) lies ∙ area_second (axes h) (place h a) (place h b) (place h c) s t) (negative_product s (area_of h a b c) m (unit_area h a b c u)))))
        by (inr k) (inr l) (inr m) = inl (corner (corner_place (place h a) (place h b) (place h c) s t m k l))
