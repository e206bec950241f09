-- Parallel segments that meet inside: an end of one lies inside the other, or they are one.
use Rattle.std.proofs.Common.{◌≡◌, ◌≢◌, ℕ, zero, suc, ◌-◌, ◌*◌, ◌<◌, ◌≤◌, ◌⊎◌, inl, inr, ⊎_elim, refl, sym, ap, ◌∙◌, subst, arith, ℤ, pos, negsuc, ◌+ℤ◌, ◌-ℤ◌, ◌*ℤ◌, neg_ℤ, ◌<ℤ◌, [], ◌∷◌, mul-le-mul}
use Rattle.std.proofs.lemmas.Int.{ints}
use Rattle.ntfe_nums.specs.Vectors.{Vector, origin, difference, multiple, dot}
use Rattle.ntfe_nums.proofs.Ring.{ring}
use Rattle.ntfe_nums.proofs.Ring.Expression.{var, num, plus, minus, times, neg}
use Rattle.ntfe_nums.proofs.Signs.{no_difference}
use Rattle.ntfe_model.proofs.PlaneNumbers.{negative_product}
use Rattle.face_chart.proofs.SegmentLemmas.{total, square_is, total_none, apart_total}
use Rattle.fine_triples.specs.Meetings.{IsInside, HasInsideEnd, AreOneSegment, DoMeetInside, gram}
use Rattle.fine_triples.proofs.InsideLemmas.{nothing, inside_from, inside_turn}
use Rattle.fine_triples.proofs.CrossLemmas.{meet_turn, meet_swap}
use Rattle.ntfe_nums.proofs.VectorLemmas.{same4}

-- ---- the square of a vector

square_none : (v : Vector) → dot v v ≡ pos 0 → v ≡ origin
square_none v e = total_none v (whole (total v) (sym (square_is v) ∙ e))
  where
    whole : (n : ℕ) → pos n ≡ pos 0 → n ≡ 0
    whole n p = omega (arith, ints, p)

square_least : (v : Vector) → dot v v <ℤ pos 0 → ⊥
square_least v l = below (dot v v) (total v) l (square_is v)
  where
    below : (z : ℤ) (n : ℕ) → z <ℤ pos 0 → z ≡ pos n → ⊥
    below z n p q = absurd (omega (arith, ints, p, q))

-- a segment with two ends has a difference whose square is positive
apart_positive : (a b : Vector) → a ≢ b → 0 < total (difference b a)
apart_positive a b d = above (total (difference b a)) (apart_total a b d)
  where
    above : (k : ℕ) → k ≢ 0 → 0 < k
    above k n = grind (arith, n)

-- the multiple of e by the square of d, less that of d by their product
across : Vector → Vector → Vector
across d e = difference (multiple (dot d d) e) (multiple (dot d e) d)

gram_square : (d e : Vector) → dot (across d e) (across d e) ≡ gram d e *ℤ dot d d
unfolding across
gram_square d e =
    ring (dot d d ∷ dot d e ∷ d.x1 ∷ d.x2 ∷ d.x3 ∷ d.x4 ∷ e.x1 ∷ e.x2 ∷ e.x3 ∷ e.x4 ∷ [])
    (plus (plus (plus (times (minus (times (var 0) (var 6)) (times (var 1) (var 2))) (minus (times (var 0) (var 6)) (times (var 1) (var 2))))
    (times (minus (times (var 0) (var 7)) (times (var 1) (var 3))) (minus (times (var 0) (var 7)) (times (var 1) (var 3)))))
    (times (minus (times (var 0) (var 8)) (times (var 1) (var 4))) (minus (times (var 0) (var 8)) (times (var 1) (var 4)))))
    (times (minus (times (var 0) (var 9)) (times (var 1) (var 5))) (minus (times (var 0) (var 9)) (times (var 1) (var 5)))))
    (plus (minus (times (times (var 0) (var 0)) (plus (plus (plus (times (var 6) (var 6)) (times (var 7) (var 7))) (times (var 8) (var 8))) (times (var 9) (var 9))))
    (times (times (num (pos 2)) (times (var 0) (var 1))) (plus (plus (plus (times (var 2) (var 6)) (times (var 3) (var 7))) (times (var 4) (var 8))) (times (var 5) (var 9)))))
    (times (times (var 1) (var 1)) (plus (plus (plus (times (var 2) (var 2)) (times (var 3) (var 3))) (times (var 4) (var 4))) (times (var 5) (var 5))))) refl
    ∙ ring (dot d d ∷ dot d e ∷ dot e e ∷ [])
    (plus (minus (times (times (var 0) (var 0)) (var 2)) (times (times (num (pos 2)) (times (var 0) (var 1))) (var 1))) (times (times (var 1) (var 1)) (var 0)))
    (times (minus (times (var 0) (var 2)) (times (var 1) (var 1))) (var 0)) refl

-- where it is 0, e is along d
along : (d e : Vector) → gram d e ≡ pos 0 → multiple (dot d d) e ≡ multiple (dot d e) d
unfolding across
along d e g =
    let w = square_none (across d e) (gram_square d e ∙ ap (λ z. z *ℤ dot d d) g ∙ ring (dot d d ∷ []) (times (num (pos 0)) (var 0)) (num (pos 0)) refl) in
    sym (same4 (multiple (dot d e) d) (multiple (dot d d) e) (no_difference _ _ (ap (λ v. v.x1) w)) (no_difference _ _ (ap (λ v. v.x2) w)) (no_difference _ _ (ap (λ v. v.x3) w)) (no_difference _ _ (ap (λ v. v.x4) w)))

-- and else it is positive
pub gram_positive : (a b e : Vector) → a ≢ b → gram (difference b a) e ≢ pos 0 → pos 0 <ℤ gram (difference b a) e
gram_positive a b e n g = by (gram d e) (dot d d) g (λ l. square_least (across d e) (let P : ℤ → Type 0 = λ z. z <ℤ pos 0 in subst P (sym (gram_square d e)) l))
    (let P : ℤ → Type 0 = λ z. pos 0 <ℤ z in subst P (sym (square_is d)) (whole (total d) (apart_positive a b n)))
  where
    d : Vector
    d = difference b a

    whole : (k : ℕ) → 0 < k → pos 0 <ℤ pos k
    whole k p = omega (arith, ints, p)

    by : (x y : ℤ) → x ≢ pos 0 → ((x *ℤ y) <ℤ pos 0 → ⊥) → pos 0 <ℤ y → pos 0 <ℤ x
    by (pos zero) y m l h = absurd (m refl)
    by (pos (suc k)) y m l h = omega (arith, ints)
    by (negsuc k) y m l h = absurd (l (negative_product (negsuc k) y (omega (arith, ints)) h))

-- ---- segments in one direction

-- D times the second is G times the first
record AreAligned (a b c f : Vector) (D G : ℕ) : Type 0 where
  positive : (0 < D) × (0 < G)
  along : multiple (pos D) (difference f c) ≡ multiple (pos G) (difference b a)

aligned_swap : (a b c f : Vector) (D G : ℕ) → AreAligned a b c f D G → AreAligned c f a b G D
aligned_swap a b c f D G h = record { positive = (h.positive.1, h.positive.0); along = sym h.along }

turned : (D G i j k l : ℤ) → D *ℤ (l -ℤ k) ≡ G *ℤ (j -ℤ i) → D *ℤ (k -ℤ l) ≡ G *ℤ (i -ℤ j)
turned D G i j k l e =
    ring (D ∷ k ∷ l ∷ []) (times (var 0) (minus (var 1) (var 2))) (neg (times (var 0) (minus (var 2) (var 1)))) refl
    ∙ ap neg_ℤ e
    ∙ ring (G ∷ i ∷ j ∷ []) (neg (times (var 0) (minus (var 2) (var 1)))) (times (var 0) (minus (var 1) (var 2))) refl

aligned_back : (a b c f : Vector) (D G : ℕ) → AreAligned a b c f D G → AreAligned b a f c D G
aligned_back a b c f D G h = record {
  positive = h.positive;
  along = same4 (multiple (pos D) (difference c f)) (multiple (pos G) (difference a b))
      (turned (pos D) (pos G) a.x1 b.x1 c.x1 f.x1 (ap (λ v. v.x1) h.along)) (turned (pos D) (pos G) a.x2 b.x2 c.x2 f.x2 (ap (λ v. v.x2) h.along))
      (turned (pos D) (pos G) a.x3 b.x3 c.x3 f.x3 (ap (λ v. v.x3) h.along)) (turned (pos D) (pos G) a.x4 b.x4 c.x4 f.x4 (ap (λ v. v.x4) h.along));
}

-- the meeting in one coordinate: s (b - a) - t (f - c) = n (c - a)
pub meet_number : (n s t a b c f : ℤ) → (n -ℤ s) *ℤ a +ℤ s *ℤ b ≡ (n -ℤ t) *ℤ c +ℤ t *ℤ f → s *ℤ (b -ℤ a) -ℤ t *ℤ (f -ℤ c) ≡ n *ℤ (c -ℤ a)
meet_number n s t a b c f e =
    ring (n ∷ s ∷ t ∷ a ∷ b ∷ c ∷ f ∷ []) (minus (times (var 1) (minus (var 4) (var 3))) (times (var 2) (minus (var 6) (var 5))))
    (minus (plus (times (minus (var 0) (var 1)) (var 3)) (times (var 1) (var 4))) (plus (times (var 0) (var 3)) (times (var 2) (minus (var 6) (var 5))))) refl
    ∙ ap (λ z. z -ℤ (n *ℤ a +ℤ t *ℤ (f -ℤ c))) e
    ∙ ring (n ∷ s ∷ t ∷ a ∷ b ∷ c ∷ f ∷ []) (minus (plus (times (minus (var 0) (var 2)) (var 5)) (times (var 2) (var 6))) (plus (times (var 0) (var 3)) (times (var 2) (minus (var 6) (var 5)))))
    (times (var 0) (minus (var 5) (var 3))) refl

-- n D (c - a) = (s D - t G) (b - a)
lead_number : (n s t D G d e r : ℤ) → s *ℤ d -ℤ t *ℤ e ≡ n *ℤ r → D *ℤ e ≡ G *ℤ d → (n *ℤ D) *ℤ r ≡ (s *ℤ D -ℤ t *ℤ G) *ℤ d
lead_number n s t D G d e r p q =
    ring (n ∷ D ∷ r ∷ []) (times (times (var 0) (var 1)) (var 2)) (times (var 1) (times (var 0) (var 2))) refl
    ∙ ap (λ z. D *ℤ z) (sym p)
    ∙ ring (s ∷ t ∷ D ∷ d ∷ e ∷ []) (times (var 2) (minus (times (var 0) (var 3)) (times (var 1) (var 4)))) (minus (times (var 0) (times (var 2) (var 3))) (times (var 1) (times (var 2) (var 4)))) refl
    ∙ ap (λ z. s *ℤ (D *ℤ d) -ℤ t *ℤ z) q
    ∙ ring (s ∷ t ∷ D ∷ G ∷ d ∷ []) (minus (times (var 0) (times (var 2) (var 4))) (times (var 1) (times (var 3) (var 4)))) (times (minus (times (var 0) (var 2)) (times (var 1) (var 3))) (var 4)) refl

module _ (a b c f : Vector) (D G : ℕ) (h : AreAligned a b c f D G) (m : DoMeetInside a b c f) where
  lead : multiple (pos (m.n * D)) (difference c a) ≡ multiple (pos (m.s * D) -ℤ pos (m.t * G)) (difference b a)
  lead =
      same4 (multiple (pos (m.n * D)) (difference c a)) (multiple (pos (m.s * D) -ℤ pos (m.t * G)) (difference b a))
      (one a.x1 b.x1 c.x1 f.x1 (ap (λ v. v.x1) m.meet) (ap (λ v. v.x1) h.along)) (one a.x2 b.x2 c.x2 f.x2 (ap (λ v. v.x2) m.meet) (ap (λ v. v.x2) h.along))
      (one a.x3 b.x3 c.x3 f.x3 (ap (λ v. v.x3) m.meet) (ap (λ v. v.x3) h.along)) (one a.x4 b.x4 c.x4 f.x4 (ap (λ v. v.x4) m.meet) (ap (λ v. v.x4) h.along))
    where
      one : (i j k l : ℤ) → (pos m.n -ℤ pos m.s) *ℤ i +ℤ pos m.s *ℤ j ≡ (pos m.n -ℤ pos m.t) *ℤ k +ℤ pos m.t *ℤ l → pos D *ℤ (l -ℤ k) ≡ pos G *ℤ (j -ℤ i)
          → pos (m.n * D) *ℤ (k -ℤ i) ≡ (pos (m.s * D) -ℤ pos (m.t * G)) *ℤ (j -ℤ i)
      one i j k l p q = lead_number (pos m.n) (pos m.s) (pos m.t) (pos D) (pos G) (j -ℤ i) (l -ℤ k) (k -ℤ i) (meet_number (pos m.n) (pos m.s) (pos m.t) i j k l p) q

  -- c is behind a, and before b
  ahead : m.t * G < m.s * D → IsInside a b c
  ahead l =
      let P : ℤ → Type 0 = λ z. multiple (pos (m.n * D)) (difference c a) ≡ multiple z (difference b a) in
      inside_from (m.n * D) (m.s * D - m.t * G) a b c m.distinct.0 (some (m.s * D) (m.t * G) l) (most m.s m.n (m.t * G) m.first.1) (subst P (rest (m.s * D) (m.t * G) l) lead)
    where
      some : (x y : ℕ) → y < x → 0 < x - y
      some x y p = omega (arith, p)

      rest : (x y : ℕ) → y < x → pos x -ℤ pos y ≡ pos (x - y)
      rest x y p = omega (arith, ints, p)

      same_le : (k : ℕ) → k ≤ k
      same_le k = omega arith

      most : (s n y : ℕ) → s < n → s * D - y < n * D
      most s n y p = let q : suc s * D ≤ n * D = mul-le-mul p (same_le D) in let k = h.positive.0 in omega (arith, q, k)

  level : m.t * G ≡ m.s * D → a ≡ c
  level e = same4 a c (one a.x1 b.x1 c.x1 (ap (λ v. v.x1) lead)) (one a.x2 b.x2 c.x2 (ap (λ v. v.x2) lead)) (one a.x3 b.x3 c.x3 (ap (λ v. v.x3) lead)) (one a.x4 b.x4 c.x4 (ap (λ v. v.x4) lead))
    where
      none : (x y : ℕ) → y ≡ x → pos x -ℤ pos y ≡ pos 0
      none x y p = omega (arith, ints, p)

      positive : (x y : ℕ) → 0 < x → 0 < y → pos (x * y) ≢ pos 0
      positive (suc x) (suc y) p q e = absurd (omega (arith, ints, e))
      positive zero y p q e = absurd (omega (arith, p))
      positive (suc x) zero p q e = absurd (omega (arith, q))

      n_positive : 0 < m.n
      n_positive = let p = m.first.1 in omega (arith, p)

      one : (i j k : ℤ) → pos (m.n * D) *ℤ (k -ℤ i) ≡ (pos (m.s * D) -ℤ pos (m.t * G)) *ℤ (j -ℤ i) → i ≡ k
      one i j k p =
          nothing (pos (m.n * D)) i k (positive m.n D n_positive h.positive.0)
          (p ∙ ap (λ z. z *ℤ (j -ℤ i)) (none (m.s * D) (m.t * G) e) ∙ ring (j ∷ i ∷ []) (times (num (pos 0)) (minus (var 0) (var 1))) (num (pos 0)) refl)

three : (x y : ℕ) → (x < y) ⊎ ((x ≡ y) ⊎ (y < x))
three zero zero = inr (inl refl)
three zero (suc y) = inl (omega arith)
three (suc x) zero = inr (inr (omega arith))
three (suc x) (suc y) = by (three x y)
  where
    by : (x < y) ⊎ ((x ≡ y) ⊎ (y < x)) → (suc x < suc y) ⊎ ((suc x ≡ suc y) ⊎ (suc y < suc x))
    by (inl l) = inl (omega (arith, l))
    by (inr (inl e)) = inr (inl (ap suc e))
    by (inr (inr l)) = inr (inr (omega (arith, l)))

-- at the first ends
first_ends : (a b c f : Vector) (D G : ℕ) → AreAligned a b c f D G → DoMeetInside a b c f → IsInside a b c ⊎ IsInside c f a ⊎ (a ≡ c)
first_ends a b c f D G h m = by (three (m.t * G) (m.s * D))
  where
    by : (m.t * G < m.s * D) ⊎ ((m.t * G ≡ m.s * D) ⊎ (m.s * D < m.t * G)) → IsInside a b c ⊎ IsInside c f a ⊎ (a ≡ c)
    by (inl l) = inl (ahead a b c f D G h m l)
    by (inr (inl e)) = inr (inr (level a b c f D G h m e))
    by (inr (inr l)) = inr (inl (ahead c f a b G D (aligned_swap a b c f D G h) (meet_swap a b c f m) l))

-- at both ends
both_ends : (a b c f : Vector) (D G : ℕ) → AreAligned a b c f D G → DoMeetInside a b c f → HasInsideEnd a b c f ⊎ ((a ≡ c) × (b ≡ f))
both_ends a b c f D G h m = by (first_ends a b c f D G h m) (first_ends b a f c D G (aligned_back a b c f D G h) back)
  where
    back : DoMeetInside b a f c
    back = meet_swap f c b a (meet_turn f c a b (meet_swap a b f c (meet_turn a b c f m)))

    by : IsInside a b c ⊎ IsInside c f a ⊎ (a ≡ c) → IsInside b a f ⊎ IsInside f c b ⊎ (b ≡ f) → HasInsideEnd a b c f ⊎ ((a ≡ c) × (b ≡ f))
    by (inl p) q = inl (inl p)
    by (inr (inl p)) q = inl (inr (inr (inl p)))
    by (inr (inr e)) (inl q) = inl (inr (inl (inside_turn b a f q)))
    by (inr (inr e)) (inr (inl q)) = inl (inr (inr (inr (inside_turn f c b q))))
    by (inr (inr e)) (inr (inr f')) = inr (e, f')

turn_ends : (a b c f : Vector) → HasInsideEnd a b f c → HasInsideEnd a b c f
turn_ends a b c f (inl p) = inr (inl p)
turn_ends a b c f (inr (inl p)) = inl p
turn_ends a b c f (inr (inr (inl p))) = inr (inr (inl (inside_turn f c a p)))
turn_ends a b c f (inr (inr (inr p))) = inr (inr (inr (inside_turn f c b p)))

-- ---- in either direction

pub parallel_ends : (a b c f : Vector) → gram (difference b a) (difference f c) ≡ pos 0 → DoMeetInside a b c f → HasInsideEnd a b c f ⊎ AreOneSegment a b c f
parallel_ends a b c f g m = by (dot (difference b a) (difference f c)) (subst P (square_is (difference b a)) (along (difference b a) (difference f c) g))
  where
    D : ℕ
    D = total (difference b a)

    P : ℤ → Type 0
    P z = multiple z (difference f c) ≡ multiple (dot (difference b a) (difference f c)) (difference b a)

    positive : 0 < D
    positive = apart_positive a b m.distinct.0

    some : pos D ≢ pos 0
    some e = let p = positive in absurd (omega (arith, ints, e, p))

    opposite : (E : ℤ) (k : ℕ) (i j x y : ℤ) → E *ℤ (y -ℤ x) ≡ negsuc k *ℤ (j -ℤ i) → E *ℤ (x -ℤ y) ≡ pos (suc k) *ℤ (j -ℤ i)
    opposite E k i j x y e =
        ring (E ∷ x ∷ y ∷ []) (times (var 0) (minus (var 1) (var 2))) (neg (times (var 0) (minus (var 2) (var 1)))) refl
        ∙ ap neg_ℤ e
        ∙ ring (negsuc k ∷ j ∷ i ∷ []) (neg (times (var 0) (minus (var 1) (var 2)))) (times (neg (var 0)) (minus (var 1) (var 2))) refl

    by : (G : ℤ) → multiple (pos D) (difference f c) ≡ multiple G (difference b a) → HasInsideEnd a b c f ⊎ AreOneSegment a b c f
    by (pos zero) e =
        absurd (m.distinct.1 (same4 c f (none c.x1 f.x1 (b.x1 -ℤ a.x1) (ap (λ v. v.x1) e)) (none c.x2 f.x2 (b.x2 -ℤ a.x2) (ap (λ v. v.x2) e)) (none c.x3 f.x3 (b.x3 -ℤ a.x3) (ap (λ v. v.x3) e)) (none c.x4 f.x4 (b.x4 -ℤ a.x4) (ap (λ v. v.x4) e))))
      where
        none : (i j z : ℤ) → pos D *ℤ (j -ℤ i) ≡ pos 0 *ℤ z → i ≡ j
        none i j z p = nothing (pos D) i j some (p ∙ ring (z ∷ []) (times (num (pos 0)) (var 0)) (num (pos 0)) refl)
    by (pos (suc k)) e =
        ⊎_elim (λ p. inl p) (λ q. inr (record { distinct = m.distinct.0; ends = inl q }))
        (both_ends a b c f D (suc k) (record { positive = (positive, omega arith); along = e }) m)
    by (negsuc k) e =
        ⊎_elim (λ p. inl (turn_ends a b c f p)) (λ q. inr (record { distinct = m.distinct.0; ends = inr q }))
        (both_ends a b f c D (suc k) (record { positive = (positive, omega arith); along = turned_along }) (meet_turn a b c f m))
      where
        turned_along : multiple (pos D) (difference c f) ≡ multiple (pos (suc k)) (difference b a)
        turned_along =
            same4 (multiple (pos D) (difference c f)) (multiple (pos (suc k)) (difference b a))
            (opposite (pos D) k a.x1 b.x1 c.x1 f.x1 (ap (λ v. v.x1) e)) (opposite (pos D) k a.x2 b.x2 c.x2 f.x2 (ap (λ v. v.x2) e))
            (opposite (pos D) k a.x3 b.x3 c.x3 f.x3 (ap (λ v. v.x3) e)) (opposite (pos D) k a.x4 b.x4 c.x4 f.x4 (ap (λ v. v.x4) e))
