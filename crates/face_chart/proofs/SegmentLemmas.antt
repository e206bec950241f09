-- When a point lies on a segment.
use Rattle.std.proofs.Common.{◌≡◌, ◌≢◌, ℕ, zero, suc, ◌+◌, ◌-◌, ◌*◌, ◌<◌, ◌≤◌, refl, sym, ap, ◌∙◌, subst, arith, ℤ, pos, negsuc, ◌+ℤ◌, ◌-ℤ◌, ◌*ℤ◌, ◌<ℤ◌, ◌≤ℤ◌, [], ◌∷◌, get_or, unsigned_abs}
use Rattle.std.proofs.lemmas.Int.{ints}
use Rattle.ntfe_nums.specs.Vectors.{Vector, numbers, origin, vector_sum, difference, multiple, dot}
use Rattle.ntfe_nums.proofs.Ring.{ring}
use Rattle.ntfe_nums.proofs.Ring.Expression.{var, plus, minus, times}
use Rattle.ntfe_nums.proofs.Signs.{no_difference}
use Rattle.ntfe_model.specs.Charts.{IsOnSegment}
use Rattle.ntfe_model.proofs.PlaneNumbers.{cancel, negative_product}

-- ---- the square of a vector

square : (z : ℤ) → z *ℤ z ≡ pos (unsigned_abs z * unsigned_abs z)
square (pos n) = refl
square (negsuc n) = refl

no_square : (k : ℕ) (r : ℕ) → k * k + r ≡ 0 → k ≡ 0
no_square zero r e = refl
no_square (suc k) r e = absurd (omega arith)

pub total : Vector → ℕ
total v = unsigned_abs v.x1 * unsigned_abs v.x1 + unsigned_abs v.x2 * unsigned_abs v.x2 + unsigned_abs v.x3 * unsigned_abs v.x3 + unsigned_abs v.x4 * unsigned_abs v.x4

pub square_is : (v : Vector) → dot v v ≡ pos (total v)
unfolding total
square_is v = λ i. square v.x1 i +ℤ square v.x2 i +ℤ square v.x3 i +ℤ square v.x4 i

pub total_none : (v : Vector) → total v ≡ 0 → v ≡ origin
unfolding total
total_none v e =
    let k = unsigned_abs v.x1 in
    let l = unsigned_abs v.x2 in
    let m = unsigned_abs v.x3 in
    let n = unsigned_abs v.x4 in
    let e1 = none v.x1 (first k l m n e) in
    let e2 = none v.x2 (second k l m n e) in
    let e3 = none v.x3 (third k l m n e) in
    let e4 = none v.x4 (fourth k l m n e) in
    λ i. record { x1 = e1 i; x2 = e2 i; x3 = e3 i; x4 = e4 i }
  where
    none : (z : ℤ) → unsigned_abs z ≡ 0 → z ≡ pos 0
    none z p = omega (arith, ints, p)

    first : (k l m n : ℕ) → k * k + l * l + m * m + n * n ≡ 0 → k ≡ 0
    first k l m n q = no_square k (l * l + m * m + n * n) (omega (arith, q))

    second : (k l m n : ℕ) → k * k + l * l + m * m + n * n ≡ 0 → l ≡ 0
    second k l m n q = no_square l (k * k + m * m + n * n) (omega (arith, q))

    third : (k l m n : ℕ) → k * k + l * l + m * m + n * n ≡ 0 → m ≡ 0
    third k l m n q = no_square m (k * k + l * l + n * n) (omega (arith, q))

    fourth : (k l m n : ℕ) → k * k + l * l + m * m + n * n ≡ 0 → n ≡ 0
    fourth k l m n q = no_square n (k * k + l * l + m * m) (omega (arith, q))

pub apart_total : (a b : Vector) → a ≢ b → total (difference b a) ≢ 0
apart_total a b ne e =
    let z = total_none (difference b a) e in
    let e1 = no_difference a.x1 b.x1 (ap (λ v. v.x1) z) in
    let e2 = no_difference a.x2 b.x2 (ap (λ v. v.x2) z) in
    let e3 = no_difference a.x3 b.x3 (ap (λ v. v.x3) z) in
    let e4 = no_difference a.x4 b.x4 (ap (λ v. v.x4) z) in
    ne (λ i. record { x1 = e1 i; x2 = e2 i; x3 = e3 i; x4 = e4 i })

-- ---- one coordinate

pub mix_number : (n s a b x : ℤ) → n *ℤ (x -ℤ a) ≡ s *ℤ (b -ℤ a) → n *ℤ x ≡ (n -ℤ s) *ℤ a +ℤ s *ℤ b
mix_number n s a b x e =
    ring (n ∷ x ∷ a ∷ []) (times (var 0) (var 1)) (plus (times (var 0) (minus (var 1) (var 2))) (times (var 0) (var 2))) refl
    ∙ ap (λ z. z +ℤ n *ℤ a) e
    ∙ ring (n ∷ s ∷ a ∷ b ∷ []) (plus (times (var 1) (minus (var 3) (var 2))) (times (var 0) (var 2))) (plus (times (minus (var 0) (var 1)) (var 2)) (times (var 1) (var 3))) refl

share_of_mix : (n s a b x : ℤ) → n *ℤ x ≡ (n -ℤ s) *ℤ a +ℤ s *ℤ b → n *ℤ (x -ℤ a) ≡ s *ℤ (b -ℤ a)
share_of_mix n s a b x e =
    ring (n ∷ x ∷ a ∷ []) (times (var 0) (minus (var 1) (var 2))) (minus (times (var 0) (var 1)) (times (var 0) (var 2))) refl
    ∙ ap (λ z. z -ℤ n *ℤ a) e
    ∙ ring (n ∷ s ∷ a ∷ b ∷ []) (minus (plus (times (minus (var 0) (var 1)) (var 2)) (times (var 1) (var 3))) (times (var 0) (var 2))) (times (var 1) (minus (var 3) (var 2))) refl

-- where n e = s d and n S = s N, also N e = S d
other_share : (n s N S d e : ℤ) → pos 0 <ℤ n → n *ℤ S ≡ s *ℤ N → n *ℤ e ≡ s *ℤ d → N *ℤ e ≡ S *ℤ d
other_share n s N S d e h p q =
    cancel (N *ℤ e) (S *ℤ d) n h
    (ring (n ∷ N ∷ e ∷ []) (times (times (var 1) (var 2)) (var 0)) (times (var 1) (times (var 0) (var 2))) refl
    ∙ ap (λ z. N *ℤ z) q
    ∙ ring (s ∷ N ∷ d ∷ []) (times (var 1) (times (var 0) (var 2))) (times (times (var 0) (var 1)) (var 2)) refl
    ∙ ap (λ z. z *ℤ d) (sym p)
    ∙ ring (n ∷ S ∷ d ∷ []) (times (times (var 0) (var 1)) (var 2)) (times (times (var 1) (var 2)) (var 0)) refl)

scaled : (n s : ℤ) (d e : Vector) → n *ℤ e.x1 ≡ s *ℤ d.x1 → n *ℤ e.x2 ≡ s *ℤ d.x2 → n *ℤ e.x3 ≡ s *ℤ d.x3 → n *ℤ e.x4 ≡ s *ℤ d.x4 → n *ℤ dot d e ≡ s *ℤ dot d d
scaled n s d e p1 p2 p3 p4 =
    ring (n ∷ d.x1 ∷ d.x2 ∷ d.x3 ∷ d.x4 ∷ e.x1 ∷ e.x2 ∷ e.x3 ∷ e.x4 ∷ [])
    (times (var 0) (plus (plus (plus (times (var 1) (var 5)) (times (var 2) (var 6))) (times (var 3) (var 7))) (times (var 4) (var 8))))
    (plus (plus (plus (times (var 1) (times (var 0) (var 5))) (times (var 2) (times (var 0) (var 6)))) (times (var 3) (times (var 0) (var 7)))) (times (var 4) (times (var 0) (var 8)))) refl
    ∙ (λ i. d.x1 *ℤ p1 i +ℤ d.x2 *ℤ p2 i +ℤ d.x3 *ℤ p3 i +ℤ d.x4 *ℤ p4 i)
    ∙ ring (s ∷ d.x1 ∷ d.x2 ∷ d.x3 ∷ d.x4 ∷ [])
    (plus (plus (plus (times (var 1) (times (var 0) (var 1))) (times (var 2) (times (var 0) (var 2)))) (times (var 3) (times (var 0) (var 3)))) (times (var 4) (times (var 0) (var 4))))
    (times (var 0) (plus (plus (plus (times (var 1) (var 1)) (times (var 2) (var 2))) (times (var 3) (var 3))) (times (var 4) (var 4)))) refl

-- ---- the bounds of the share

not_negative : (n s m : ℕ) (S : ℤ) → 0 < n → pos n *ℤ S ≡ pos s *ℤ pos m → S <ℤ pos 0 → ⊥
not_negative n s m S h e l = below (S *ℤ pos n) (s * m) (negative_product S (pos n) l (omega (arith, ints, h))) (ring (S ∷ pos n ∷ []) (times (var 0) (var 1)) (times (var 1) (var 0)) refl ∙ e)
  where
    below : (z : ℤ) (k : ℕ) → z <ℤ pos 0 → z ≡ pos k → ⊥
    below z k p q = absurd (omega (arith, ints, p, q))

not_above : (n s m : ℕ) (S : ℤ) → 0 < n → s ≤ n → pos n *ℤ S ≡ pos s *ℤ pos m → pos m <ℤ S → ⊥
not_above n s m S h k e l =
    below ((pos m -ℤ S) *ℤ pos n) (m * (n - s)) (negative_product (pos m -ℤ S) (pos n) (omega (arith, ints, l)) (omega (arith, ints, h)))
    (ring (pos m ∷ S ∷ pos n ∷ []) (times (minus (var 0) (var 1)) (var 2)) (minus (times (var 0) (var 2)) (times (var 2) (var 1))) refl
    ∙ ap (λ z. pos m *ℤ pos n -ℤ z) e
    ∙ ring (pos m ∷ pos n ∷ pos s ∷ []) (minus (times (var 0) (var 1)) (times (var 2) (var 0))) (times (var 0) (minus (var 1) (var 2))) refl
    ∙ ap (λ z. pos m *ℤ z) rest)
  where
    rest : pos n -ℤ pos s ≡ pos (n - s)
    rest = omega (arith, ints, k)

    below : (z : ℤ) (j : ℕ) → z <ℤ pos 0 → z ≡ pos j → ⊥
    below z j p q = absurd (omega (arith, ints, p, q))

size_is : (z : ℤ) → pos 0 ≤ℤ z → pos (unsigned_abs z) ≡ z
size_is z h = omega (arith, ints, h)

-- ---- both directions

module _ (a b x : Vector) (N S : ℤ) (eN : N ≡ dot (difference b a) (difference b a)) (eS : S ≡ dot (difference b a) (difference x a)) where
  pub on_segment : a ≢ b → pos 0 ≤ℤ S → S ≤ℤ N → ((k : ℕ) → k < 4 → N *ℤ get_or (numbers (difference x a)) k (pos 0) ≡ S *ℤ get_or (numbers (difference b a)) k (pos 0)) → IsOnSegment a b x
  on_segment ne h k f =
      let nN = size_is N (omega (arith, ints, h, k)) in
      let sS = size_is S h in
      let m1 = mix_number N S a.x1 b.x1 x.x1 (f 0 (omega arith)) in
      let m2 = mix_number N S a.x2 b.x2 x.x2 (f 1 (omega arith)) in
      let m3 = mix_number N S a.x3 b.x3 x.x3 (f 2 (omega arith)) in
      let m4 = mix_number N S a.x4 b.x4 x.x4 (f 3 (omega arith)) in
      let mNS : multiple N x ≡ vector_sum (multiple (N -ℤ S) a) (multiple S b) = λ i. record { x1 = m1 i; x2 = m2 i; x3 = m3 i; x4 = m4 i } in
      record {
        n = unsigned_abs N;
        s = unsigned_abs S;
        range = (positive N (total (difference b a)) (eN ∙ square_is (difference b a)) (apart_total a b ne), omega (arith, ints, h, k));
        mix = subst (λ (t : ℤ × ℤ). multiple t.0 x ≡ vector_sum (multiple (t.0 -ℤ t.1) a) (multiple t.1 b)) (λ i. (sym nN i, sym sS i)) mNS;
      }
    where
      positive : (z : ℤ) (m : ℕ) → z ≡ pos m → m ≢ 0 → 0 < unsigned_abs z
      positive z m e g = omega (arith, ints, e, g)

  module _ (o : IsOnSegment a b x) where
    at1 : pos o.n *ℤ (x.x1 -ℤ a.x1) ≡ pos o.s *ℤ (b.x1 -ℤ a.x1)
    at1 = share_of_mix (pos o.n) (pos o.s) a.x1 b.x1 x.x1 (ap (λ v. v.x1) o.mix)

    at2 : pos o.n *ℤ (x.x2 -ℤ a.x2) ≡ pos o.s *ℤ (b.x2 -ℤ a.x2)
    at2 = share_of_mix (pos o.n) (pos o.s) a.x2 b.x2 x.x2 (ap (λ v. v.x2) o.mix)

    at3 : pos o.n *ℤ (x.x3 -ℤ a.x3) ≡ pos o.s *ℤ (b.x3 -ℤ a.x3)
    at3 = share_of_mix (pos o.n) (pos o.s) a.x3 b.x3 x.x3 (ap (λ v. v.x3) o.mix)

    at4 : pos o.n *ℤ (x.x4 -ℤ a.x4) ≡ pos o.s *ℤ (b.x4 -ℤ a.x4)
    at4 = share_of_mix (pos o.n) (pos o.s) a.x4 b.x4 x.x4 (ap (λ v. v.x4) o.mix)

    ratio : pos o.n *ℤ S ≡ pos o.s *ℤ N
    ratio = ap (λ z. pos o.n *ℤ z) eS ∙ scaled (pos o.n) (pos o.s) (difference b a) (difference x a) at1 at2 at3 at4 ∙ ap (λ z. pos o.s *ℤ z) (sym eN)

    ratio_square : pos o.n *ℤ S ≡ pos o.s *ℤ pos (total (difference b a))
    ratio_square = ratio ∙ ap (λ z. pos o.s *ℤ z) (eN ∙ square_is (difference b a))

    positive_n : pos 0 <ℤ pos o.n
    positive_n = let r = o.range.0 in omega (arith, ints, r)

    pub share_low : S <ℤ pos 0 → ⊥
    share_low l = not_negative o.n o.s (total (difference b a)) S o.range.0 ratio_square l

    pub share_high : N <ℤ S → ⊥
    share_high l = not_above o.n o.s (total (difference b a)) S o.range.0 o.range.1 ratio_square (let P : ℤ → Type 0 = λ z. z <ℤ S in subst P (eN ∙ square_is (difference b a)) l)

    pub share_at : (k : ℕ) → k < 4 → N *ℤ get_or (numbers (difference x a)) k (pos 0) ≡ S *ℤ get_or (numbers (difference b a)) k (pos 0)
    share_at zero l = other_share (pos o.n) (pos o.s) N S (b.x1 -ℤ a.x1) (x.x1 -ℤ a.x1) positive_n ratio at1
    share_at (suc zero) l = other_share (pos o.n) (pos o.s) N S (b.x2 -ℤ a.x2) (x.x2 -ℤ a.x2) positive_n ratio at2
    share_at (suc (suc zero)) l = other_share (pos o.n) (pos o.s) N S (b.x3 -ℤ a.x3) (x.x3 -ℤ a.x3) positive_n ratio at3
    share_at (suc (suc (suc zero))) l = other_share (pos o.n) (pos o.s) N S (b.x4 -ℤ a.x4) (x.x4 -ℤ a.x4) positive_n ratio at4
    share_at (suc (suc (suc (suc k)))) l = absurd (omega arith)
