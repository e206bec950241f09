-- Where two segments meet inside, by their scalar products.
use Rattle.std.proofs.Common.{◌≡◌, ◌≢◌, ℕ, zero, suc, ◌<◌, refl, sym, ap, ◌∙◌, subst, arith, ℤ, pos, ◌+ℤ◌, ◌-ℤ◌, ◌*ℤ◌, ◌<ℤ◌, [], ◌∷◌, get_or, unsigned_abs}
use Rattle.std.proofs.lemmas.Int.{ints}
use Rattle.ntfe_nums.specs.Vectors.{Vector, numbers, vector_sum, difference, multiple, dot}
use Rattle.ntfe_nums.proofs.Ring.{ring, product_comm}
use Rattle.ntfe_nums.proofs.Ring.Expression.{var, num, plus, minus, times}
use Rattle.ntfe_nums.proofs.Signs.{positive_product}
use Rattle.ntfe_model.proofs.PlaneNumbers.{cancel, positive_factor}
use Rattle.fine_triples.specs.Meetings.{DoMeetInside, gram, first_share, second_share}
use Rattle.ntfe_nums.proofs.VectorLemmas.{same4}
use Rattle.fine_triples.proofs.ParallelLemmas.{gram_positive, meet_number}

-- ---- products

dot_comm : (d e : Vector) → dot e d ≡ dot d e
dot_comm d e =
    ring (d.x1 ∷ d.x2 ∷ d.x3 ∷ d.x4 ∷ e.x1 ∷ e.x2 ∷ e.x3 ∷ e.x4 ∷ [])
    (plus (plus (plus (times (var 4) (var 0)) (times (var 5) (var 1))) (times (var 6) (var 2))) (times (var 7) (var 3)))
    (plus (plus (plus (times (var 0) (var 4)) (times (var 1) (var 5))) (times (var 2) (var 6))) (times (var 3) (var 7))) refl

-- where s d - t e = n r, the same is true of the products by a vector
weighted : (n s t : ℤ) (v d e r : Vector) → s *ℤ d.x1 -ℤ t *ℤ e.x1 ≡ n *ℤ r.x1 → s *ℤ d.x2 -ℤ t *ℤ e.x2 ≡ n *ℤ r.x2 → s *ℤ d.x3 -ℤ t *ℤ e.x3 ≡ n *ℤ r.x3 → s *ℤ d.x4 -ℤ t *ℤ e.x4 ≡ n *ℤ r.x4
    → s *ℤ dot v d -ℤ t *ℤ dot v e ≡ n *ℤ dot v r
weighted n s t v d e r p1 p2 p3 p4 =
    ring (s ∷ t ∷ v.x1 ∷ v.x2 ∷ v.x3 ∷ v.x4 ∷ d.x1 ∷ d.x2 ∷ d.x3 ∷ d.x4 ∷ e.x1 ∷ e.x2 ∷ e.x3 ∷ e.x4 ∷ [])
    (minus (times (var 0) (plus (plus (plus (times (var 2) (var 6)) (times (var 3) (var 7))) (times (var 4) (var 8))) (times (var 5) (var 9))))
    (times (var 1) (plus (plus (plus (times (var 2) (var 10)) (times (var 3) (var 11))) (times (var 4) (var 12))) (times (var 5) (var 13)))))
    (plus (plus (plus (times (var 2) (minus (times (var 0) (var 6)) (times (var 1) (var 10)))) (times (var 3) (minus (times (var 0) (var 7)) (times (var 1) (var 11)))))
    (times (var 4) (minus (times (var 0) (var 8)) (times (var 1) (var 12))))) (times (var 5) (minus (times (var 0) (var 9)) (times (var 1) (var 13))))) refl
    ∙ (λ i. v.x1 *ℤ p1 i +ℤ v.x2 *ℤ p2 i +ℤ v.x3 *ℤ p3 i +ℤ v.x4 *ℤ p4 i)
    ∙ ring (n ∷ v.x1 ∷ v.x2 ∷ v.x3 ∷ v.x4 ∷ r.x1 ∷ r.x2 ∷ r.x3 ∷ r.x4 ∷ [])
    (plus (plus (plus (times (var 1) (times (var 0) (var 5))) (times (var 2) (times (var 0) (var 6)))) (times (var 3) (times (var 0) (var 7)))) (times (var 4) (times (var 0) (var 8))))
    (times (var 0) (plus (plus (plus (times (var 1) (var 5)) (times (var 2) (var 6))) (times (var 3) (var 7))) (times (var 4) (var 8)))) refl

ratio_first : (n s t D E G P Q : ℤ) → s *ℤ D -ℤ t *ℤ G ≡ n *ℤ P → s *ℤ G -ℤ t *ℤ E ≡ n *ℤ Q → n *ℤ (P *ℤ E -ℤ Q *ℤ G) ≡ s *ℤ (D *ℤ E -ℤ G *ℤ G)
ratio_first n s t D E G P Q p q =
    ring (n ∷ E ∷ G ∷ P ∷ Q ∷ []) (times (var 0) (minus (times (var 3) (var 1)) (times (var 4) (var 2)))) (minus (times (times (var 0) (var 3)) (var 1)) (times (times (var 0) (var 4)) (var 2))) refl
    ∙ (λ i. sym p i *ℤ E -ℤ sym q i *ℤ G)
    ∙ ring (s ∷ t ∷ D ∷ E ∷ G ∷ [])
    (minus (times (minus (times (var 0) (var 2)) (times (var 1) (var 4))) (var 3)) (times (minus (times (var 0) (var 4)) (times (var 1) (var 3))) (var 4)))
    (times (var 0) (minus (times (var 2) (var 3)) (times (var 4) (var 4)))) refl

ratio_second : (n s t D E G P Q : ℤ) → s *ℤ D -ℤ t *ℤ G ≡ n *ℤ P → s *ℤ G -ℤ t *ℤ E ≡ n *ℤ Q → n *ℤ (P *ℤ G -ℤ Q *ℤ D) ≡ t *ℤ (D *ℤ E -ℤ G *ℤ G)
ratio_second n s t D E G P Q p q =
    ring (n ∷ D ∷ G ∷ P ∷ Q ∷ []) (times (var 0) (minus (times (var 3) (var 2)) (times (var 4) (var 1)))) (minus (times (times (var 0) (var 3)) (var 2)) (times (times (var 0) (var 4)) (var 1))) refl
    ∙ (λ i. sym p i *ℤ G -ℤ sym q i *ℤ D)
    ∙ ring (s ∷ t ∷ D ∷ E ∷ G ∷ [])
    (minus (times (minus (times (var 0) (var 2)) (times (var 1) (var 4))) (var 4)) (times (minus (times (var 0) (var 4)) (times (var 1) (var 3))) (var 2)))
    (times (var 1) (minus (times (var 2) (var 3)) (times (var 4) (var 4)))) refl

-- ---- sizes

natural_positive : (n : ℕ) → 0 < n → pos 0 <ℤ pos n
natural_positive n h = omega (arith, ints, h)

share_more : (n s : ℕ) (S N : ℤ) → 0 < n → 0 < s → pos 0 <ℤ N → pos n *ℤ S ≡ pos s *ℤ N → pos 0 <ℤ S
share_more n s S N h k l e =
    let P : ℤ → Type 0 = λ z. pos 0 <ℤ z in
    positive_factor S (pos n) (natural_positive n h) (subst P (sym e ∙ product_comm (pos n) S) (positive_product (pos s) N (natural_positive s k) l))

share_less : (n s : ℕ) (S N : ℤ) → s < n → pos 0 <ℤ N → pos n *ℤ S ≡ pos s *ℤ N → S <ℤ N
share_less n s S N k l e =
    let P : ℤ → Type 0 = λ z. pos 0 <ℤ z in
    below (positive_factor (N -ℤ S) (pos n) (natural_positive n (omega (arith, k))) (subst P (sym left) (positive_product (pos n -ℤ pos s) N (omega (arith, ints, k)) l)))
  where
    below : pos 0 <ℤ (N -ℤ S) → S <ℤ N
    below p = omega (arith, ints, p)

    left : (N -ℤ S) *ℤ pos n ≡ (pos n -ℤ pos s) *ℤ N
    left =
        ring (N ∷ S ∷ pos n ∷ []) (times (minus (var 0) (var 1)) (var 2)) (minus (times (var 2) (var 0)) (times (var 2) (var 1))) refl
        ∙ ap (λ z. pos n *ℤ N -ℤ z) e
        ∙ ring (N ∷ pos n ∷ pos s ∷ []) (minus (times (var 1) (var 0)) (times (var 2) (var 0))) (times (minus (var 1) (var 2)) (var 0)) refl

-- n S = s N and n T = t N, and s d - t e = n r: so S d - T e = N r
met_number : (n : ℕ) (s t S T N d e r : ℤ) → 0 < n → pos n *ℤ S ≡ s *ℤ N → pos n *ℤ T ≡ t *ℤ N → s *ℤ d -ℤ t *ℤ e ≡ pos n *ℤ r → S *ℤ d -ℤ T *ℤ e ≡ N *ℤ r
met_number n s t S T N d e r h p q g =
    cancel (S *ℤ d -ℤ T *ℤ e) (N *ℤ r) (pos n) (natural_positive n h)
    (ring (S ∷ T ∷ d ∷ e ∷ pos n ∷ []) (times (minus (times (var 0) (var 2)) (times (var 1) (var 3))) (var 4)) (minus (times (times (var 4) (var 0)) (var 2)) (times (times (var 4) (var 1)) (var 3))) refl
    ∙ (λ i. p i *ℤ d -ℤ q i *ℤ e)
    ∙ ring (s ∷ t ∷ N ∷ d ∷ e ∷ []) (minus (times (times (var 0) (var 2)) (var 3)) (times (times (var 1) (var 2)) (var 4))) (times (var 2) (minus (times (var 0) (var 3)) (times (var 1) (var 4)))) refl
    ∙ ap (λ z. N *ℤ z) g
    ∙ ring (N ∷ pos n ∷ r ∷ []) (times (var 0) (times (var 1) (var 2))) (times (times (var 0) (var 2)) (var 1)) refl)

mixed_number : (n s t a b c f : ℤ) → s *ℤ (b -ℤ a) -ℤ t *ℤ (f -ℤ c) ≡ n *ℤ (c -ℤ a) → (n -ℤ s) *ℤ a +ℤ s *ℤ b ≡ (n -ℤ t) *ℤ c +ℤ t *ℤ f
mixed_number n s t a b c f e =
    ring (n ∷ s ∷ t ∷ a ∷ b ∷ c ∷ f ∷ []) (plus (times (minus (var 0) (var 1)) (var 3)) (times (var 1) (var 4)))
    (plus (minus (times (var 1) (minus (var 4) (var 3))) (times (var 2) (minus (var 6) (var 5)))) (plus (times (var 0) (var 3)) (times (var 2) (minus (var 6) (var 5))))) refl
    ∙ ap (λ z. z +ℤ (n *ℤ a +ℤ t *ℤ (f -ℤ c))) e
    ∙ ring (n ∷ t ∷ a ∷ c ∷ f ∷ []) (plus (times (var 0) (minus (var 3) (var 2))) (plus (times (var 0) (var 2)) (times (var 1) (minus (var 4) (var 3)))))
    (plus (times (minus (var 0) (var 1)) (var 3)) (times (var 1) (var 4))) refl

-- ---- a segment with one end

gram_first : (a e : Vector) → gram (difference a a) e ≡ pos 0
gram_first a e =
    ring (a.x1 ∷ a.x2 ∷ a.x3 ∷ a.x4 ∷ e.x1 ∷ e.x2 ∷ e.x3 ∷ e.x4 ∷ dot e e ∷ [])
    (minus
    (times (plus (plus (plus (times (minus (var 0) (var 0)) (minus (var 0) (var 0))) (times (minus (var 1) (var 1)) (minus (var 1) (var 1)))) (times (minus (var 2) (var 2)) (minus (var 2) (var 2)))) (times (minus (var 3) (var 3)) (minus (var 3) (var 3)))) (var 8))
    (times (plus (plus (plus (times (minus (var 0) (var 0)) (var 4)) (times (minus (var 1) (var 1)) (var 5))) (times (minus (var 2) (var 2)) (var 6))) (times (minus (var 3) (var 3)) (var 7)))
    (plus (plus (plus (times (minus (var 0) (var 0)) (var 4)) (times (minus (var 1) (var 1)) (var 5))) (times (minus (var 2) (var 2)) (var 6))) (times (minus (var 3) (var 3)) (var 7)))))
    (num (pos 0)) refl

gram_swap : (d e : Vector) → gram e d ≡ gram d e
gram_swap d e = (λ i. product_comm (dot e e) (dot d d) i -ℤ dot_comm d e i *ℤ dot_comm d e i)

-- n - s times the one and s times the other
abbrev share_of : ℤ → ℤ → Vector → Vector → Vector
share_of n s x y = vector_sum (multiple (n -ℤ s) x) (multiple s y)

-- ---- both directions

module _ (a b c f : Vector) (N S T : ℤ) (eN : N ≡ gram (difference b a) (difference f c)) (eS : S ≡ first_share (difference b a) (difference f c) (difference c a))
    (eT : T ≡ second_share (difference b a) (difference f c) (difference c a)) where
  pub meets_from : pos 0 <ℤ S → S <ℤ N → pos 0 <ℤ T → T <ℤ N
      → ((k : ℕ) → k < 4 → S *ℤ get_or (numbers (difference b a)) k (pos 0) -ℤ T *ℤ get_or (numbers (difference f c)) k (pos 0) ≡ N *ℤ get_or (numbers (difference c a)) k (pos 0)) → DoMeetInside a b c f
  meets_from s1 s2 t1 t2 g = record {
    distinct = (
      (λ e. let P : Vector → Type 0 = λ z. gram (difference z a) (difference f c) ≡ pos 0 in never (eN ∙ subst P e (gram_first a (difference f c)))),
      (λ e. let P : Vector → Type 0 = λ z. gram (difference z c) (difference b a) ≡ pos 0 in never (eN ∙ gram_swap (difference f c) (difference b a) ∙ subst P e (gram_first c (difference b a)))),
    );
    n = unsigned_abs N;
    s = unsigned_abs S;
    t = unsigned_abs T;
    first = (omega (arith, ints, s1), omega (arith, ints, s1, s2));
    second = (omega (arith, ints, t1), omega (arith, ints, t1, t2));
    meet =
        let P : ℤ × ℤ × ℤ → Type 0 = λ z. share_of z.0 z.1 a b ≡ share_of z.0 z.2 c f in
        subst P (λ i. (sym nN i, sym sS i, sym tT i))
        (same4 (share_of N S a b) (share_of N T c f) (mixed_number N S T a.x1 b.x1 c.x1 f.x1 (g 0 (omega arith))) (mixed_number N S T a.x2 b.x2 c.x2 f.x2 (g 1 (omega arith)))
        (mixed_number N S T a.x3 b.x3 c.x3 f.x3 (g 2 (omega arith))) (mixed_number N S T a.x4 b.x4 c.x4 f.x4 (g 3 (omega arith))));
  }
    where
      never : N ≡ pos 0 → ⊥
      never e = absurd (omega (arith, ints, e, s1, s2))

      nN : pos (unsigned_abs N) ≡ N
      nN = omega (arith, ints, s1, s2)

      sS : pos (unsigned_abs S) ≡ S
      sS = omega (arith, ints, s1)

      tT : pos (unsigned_abs T) ≡ T
      tT = omega (arith, ints, t1)

  module _ (m : DoMeetInside a b c f) (some : N ≢ pos 0) where
    at1 : pos m.s *ℤ (b.x1 -ℤ a.x1) -ℤ pos m.t *ℤ (f.x1 -ℤ c.x1) ≡ pos m.n *ℤ (c.x1 -ℤ a.x1)
    at1 = meet_number (pos m.n) (pos m.s) (pos m.t) a.x1 b.x1 c.x1 f.x1 (ap (λ v. v.x1) m.meet)

    at2 : pos m.s *ℤ (b.x2 -ℤ a.x2) -ℤ pos m.t *ℤ (f.x2 -ℤ c.x2) ≡ pos m.n *ℤ (c.x2 -ℤ a.x2)
    at2 = meet_number (pos m.n) (pos m.s) (pos m.t) a.x2 b.x2 c.x2 f.x2 (ap (λ v. v.x2) m.meet)

    at3 : pos m.s *ℤ (b.x3 -ℤ a.x3) -ℤ pos m.t *ℤ (f.x3 -ℤ c.x3) ≡ pos m.n *ℤ (c.x3 -ℤ a.x3)
    at3 = meet_number (pos m.n) (pos m.s) (pos m.t) a.x3 b.x3 c.x3 f.x3 (ap (λ v. v.x3) m.meet)

    at4 : pos m.s *ℤ (b.x4 -ℤ a.x4) -ℤ pos m.t *ℤ (f.x4 -ℤ c.x4) ≡ pos m.n *ℤ (c.x4 -ℤ a.x4)
    at4 = meet_number (pos m.n) (pos m.s) (pos m.t) a.x4 b.x4 c.x4 f.x4 (ap (λ v. v.x4) m.meet)

    by_first : pos m.s *ℤ dot (difference b a) (difference b a) -ℤ pos m.t *ℤ dot (difference b a) (difference f c) ≡ pos m.n *ℤ dot (difference b a) (difference c a)
    by_first = weighted (pos m.n) (pos m.s) (pos m.t) (difference b a) (difference b a) (difference f c) (difference c a) at1 at2 at3 at4

    by_second : pos m.s *ℤ dot (difference b a) (difference f c) -ℤ pos m.t *ℤ dot (difference f c) (difference f c) ≡ pos m.n *ℤ dot (difference f c) (difference c a)
    by_second =
        ap (λ z. pos m.s *ℤ z -ℤ pos m.t *ℤ dot (difference f c) (difference f c)) (sym (dot_comm (difference b a) (difference f c)))
        ∙ weighted (pos m.n) (pos m.s) (pos m.t) (difference f c) (difference b a) (difference f c) (difference c a) at1 at2 at3 at4

    ratio_s : pos m.n *ℤ S ≡ pos m.s *ℤ N
    ratio_s = ap (λ z. pos m.n *ℤ z) eS ∙ ratio_first (pos m.n) (pos m.s) (pos m.t) _ _ _ _ _ by_first by_second ∙ ap (λ z. pos m.s *ℤ z) (sym eN)

    ratio_t : pos m.n *ℤ T ≡ pos m.t *ℤ N
    ratio_t = ap (λ z. pos m.n *ℤ z) eT ∙ ratio_second (pos m.n) (pos m.s) (pos m.t) _ _ _ _ _ by_first by_second ∙ ap (λ z. pos m.t *ℤ z) (sym eN)

    positive : pos 0 <ℤ N
    positive = let P : ℤ → Type 0 = λ z. pos 0 <ℤ z in subst P (sym eN) (gram_positive a b (difference f c) m.distinct.0 (λ e. some (eN ∙ e)))

    n_positive : 0 < m.n
    n_positive = let p = m.first.1 in omega (arith, p)

    pub shares_inside : ((pos 0 <ℤ S) × (S <ℤ N)) × ((pos 0 <ℤ T) × (T <ℤ N))
    shares_inside = (
      (share_more m.n m.s S N n_positive m.first.0 positive ratio_s, share_less m.n m.s S N m.first.1 positive ratio_s),
      (share_more m.n m.t T N n_positive m.second.0 positive ratio_t, share_less m.n m.t T N m.second.1 positive ratio_t),
    )

    pub shares_at : (k : ℕ) → k < 4 → S *ℤ get_or (numbers (difference b a)) k (pos 0) -ℤ T *ℤ get_or (numbers (difference f c)) k (pos 0) ≡ N *ℤ get_or (numbers (difference c a)) k (pos 0)
    shares_at zero l = met_number m.n (pos m.s) (pos m.t) S T N (b.x1 -ℤ a.x1) (f.x1 -ℤ c.x1) (c.x1 -ℤ a.x1) n_positive ratio_s ratio_t at1
    shares_at (suc zero) l = met_number m.n (pos m.s) (pos m.t) S T N (b.x2 -ℤ a.x2) (f.x2 -ℤ c.x2) (c.x2 -ℤ a.x2) n_positive ratio_s ratio_t at2
    shares_at (suc (suc zero)) l = met_number m.n (pos m.s) (pos m.t) S T N (b.x3 -ℤ a.x3) (f.x3 -ℤ c.x3) (c.x3 -ℤ a.x3) n_positive ratio_s ratio_t at3
    shares_at (suc (suc (suc zero))) l = met_number m.n (pos m.s) (pos m.t) S T N (b.x4 -ℤ a.x4) (f.x4 -ℤ c.x4) (c.x4 -ℤ a.x4) n_positive ratio_s ratio_t at4
    shares_at (suc (suc (suc (suc k)))) l = absurd (omega (arith, l))
