-- Whole heights that tell which points are lexicographically above four others, and with which no point lies level.
--     whole w order k      the height of k, with its place in the order of pushing as a small change
--     lex_rises, rises_lex      p is lexicographically above a, b, c, d exactly where it rises above them at the whole heights
--     decide_lex      whether it is
--     rises_up, rises_least      what the heights alone say
--     never_level      it is above or below
use Rattle.std.proofs.Common.{◌≡◌, ◌≢◌, ℕ, zero, suc, ◌+◌, ◌≤◌, ◌==◌, ◌⊎◌, inl, inr, ⊎_elim, Bool, true, false, cond, refl, sym, ap, ◌∙◌, subst, arith, ℤ, pos, negsuc, ◌+ℤ◌, ◌-ℤ◌, ◌*ℤ◌, ◌<ℤ◌, ◌≤ℤ◌, neg_ℤ, List, [], ◌∷◌, map, unsigned_abs}
use Rattle.std.specs.Prelude.{Contains}
use Rattle.std.proofs.lemmas.Int.{ints}
use Rattle.ntfe_nums.specs.Vectors.{Vector, vector_sum, multiple, det4, sign}
use Rattle.ntfe_nums.proofs.Ring.{Expression, ring}
use Rattle.ntfe_nums.proofs.Ring.Expression.{var, num, plus, minus, times, neg}
use Rattle.ntfe_nums.proofs.DetLemmas.{row, det4E, of4, cramer1}
use Rattle.ntfe_nums.proofs.Machine.{value-size}
use Rattle.ntfe_model.specs.Pairs.{IsSmall}
use Rattle.ntfe_model.specs.Points.{place_of_point}
use Rattle.ntfe_model.specs.Choices.{height}
use Rattle.ntfe_model.specs.Stars.{IsFirstPositive, IsCombination, IsLexAbove, push_coefficient}
use Rattle.ntfe_model.specs.declared.point.Point.{Point}
use Rattle.ntfe_model.proofs.Listings.{Contains-cases, Contains-none}
use Rattle.ntfe_model.proofs.SmallVectors.{small_size}
use Rattle.ntfe_model.proofs.PlaneNumbers.{positive_factor}
use Rattle.ntfe_model.proofs.Triples.{Decided}
use Rattle.ntfe_nums.proofs.Exchanges.{cramer2, cramer3, cramer4}
use Rattle.ntfe_nums.proofs.Comparisons.{same_from_test, other_from_test, cond_is}
use Rattle.ntfe_nums.proofs.Signs.{not_negative, positive_product, product_not_negative, zero_not_negative}
use Rattle.star_builder.proofs.FourPoints.{one_at, one_here, one_elsewhere}
use Rattle.star_builder.proofs.Combinations.{rises_of_above}
use Rattle.star_builder.proofs.Rises.{rise, volume}
use Rattle.star_builder.proofs.Weights.{weight, weighed, leader_decides}

-- ---- determinants of small vectors

-- 24 times the fourth power of 1,023
abbrev pub volume_bound : ℕ
volume_bound = 26285350748184

pub volume_small : (a b c d : Vector) → IsSmall a → IsSmall b → IsSmall c → IsSmall d → unsigned_abs (det4 a b c d) ≤ volume_bound
unfolding det4
volume_small a b c d sa sb sc sd =
    value-size (of4 a b c d) (1023 ∷ 1023 ∷ 1023 ∷ 1023 ∷ 1023 ∷ 1023 ∷ 1023 ∷ 1023 ∷ 1023 ∷ 1023 ∷ 1023 ∷ 1023 ∷ 1023 ∷ 1023 ∷ 1023 ∷ 1023 ∷ [])
    (det4E (row 0) (row 4) (row 8) (row 12))
    (in1 a sa, (in2 a sa, (in3 a sa, (in4 a sa, (in1 b sb, (in2 b sb, (in3 b sb, (in4 b sb, (in1 c sc, (in2 c sc, (in3 c sc, (in4 c sc, (in1 d sd, (in2 d sd, (in3 d sd, (in4 d sd, tt))))))))))))))))
  where
    in1 : (v : Vector) → IsSmall v → unsigned_abs v.x1 ≤ 1023
    in1 v s = small_size v.x1 s.low1 s.high1

    in2 : (v : Vector) → IsSmall v → unsigned_abs v.x2 ≤ 1023
    in2 v s = small_size v.x2 s.low2 s.high2

    in3 : (v : Vector) → IsSmall v → unsigned_abs v.x3 ≤ 1023
    in3 v s = small_size v.x3 s.low3 s.high3

    in4 : (v : Vector) → IsSmall v → unsigned_abs v.x4 ≤ 1023
    in4 v s = small_size v.x4 s.low4 s.high4

-- ---- signs

size_of_sign : (z : ℤ) → pos (unsigned_abs z) ≡ sign z *ℤ z
size_of_sign (pos zero) = refl
size_of_sign (pos (suc n)) = omega (arith, ints)
size_of_sign (negsuc n) = omega (arith, ints)

signed_small : (z y : ℤ) (bound : ℕ) → unsigned_abs y ≤ bound → unsigned_abs (sign z *ℤ y) ≤ bound
signed_small (pos zero) y bound l = omega (arith, ints, l)
signed_small (pos (suc n)) y bound l = omega (arith, ints, l)
signed_small (negsuc n) y bound l = omega (arith, ints, l)

size_above : (z : ℤ) → z ≢ pos 0 → pos 0 <ℤ pos (unsigned_abs z)
size_above (pos zero) n = absurd (n refl)
size_above (pos (suc m)) n = omega (arith, ints)
size_above (negsuc m) n = omega (arith, ints)

sign_twice : (z r : ℤ) → (sign z *ℤ r) *ℤ pos (unsigned_abs z) ≡ z *ℤ r
sign_twice (pos zero) r = omega (arith, ints)
sign_twice (pos (suc n)) r = ring (pos (suc n) ∷ r ∷ []) (times (times (num (pos 1)) (var 1)) (var 0)) (times (var 0) (var 1)) refl
sign_twice (negsuc n) r =
    ap (λ k. (negsuc 0 *ℤ r) *ℤ k) (turned n) ∙ ring (negsuc n ∷ r ∷ []) (times (times (num (negsuc 0)) (var 1)) (neg (var 0))) (times (var 0) (var 1)) refl
  where
    turned : (n : ℕ) → pos (unsigned_abs (negsuc n)) ≡ neg_ℤ (negsuc n)
    turned n = omega (arith, ints)

pub sign_out : (z r : ℤ) → z ≢ pos 0 → pos 0 <ℤ (sign z *ℤ r) → pos 0 <ℤ (z *ℤ r)
sign_out z r n l = subst (λ y. pos 0 <ℤ y) (sign_twice z r) (positive_product (sign z *ℤ r) (pos (unsigned_abs z)) l (size_above z n))

pub sign_in : (z r : ℤ) → z ≢ pos 0 → pos 0 <ℤ (z *ℤ r) → pos 0 <ℤ (sign z *ℤ r)
sign_in z r n l = positive_factor (sign z *ℤ r) (pos (unsigned_abs z)) (size_above z n) (subst (λ y. pos 0 <ℤ y) (sym (sign_twice z r)) l)

sign_out_least : (z r : ℤ) → pos 0 ≤ℤ (sign z *ℤ r) → pos 0 ≤ℤ (z *ℤ r)
sign_out_least z r l = subst (λ y. pos 0 ≤ℤ y) (sign_twice z r) (product_not_negative (sign z *ℤ r) (pos (unsigned_abs z)) l (omega (arith, ints)))

-- ---- the first number that is not 0

-- positive, or negative, or there is none
first_of : (f : ℕ → ℤ) (ks : List ℕ) (z : ℤ)
    → IsFirstPositive (z ∷ map f ks) ⊎ (IsFirstPositive (neg_ℤ z ∷ map (λ k. neg_ℤ (f k)) ks) ⊎ ((k : ℕ) → Contains ks k → f k ≡ pos 0))
first_of f ks (pos (suc n)) = inl (inl (omega (arith, ints)))
first_of f ks (negsuc n) = inr (inl (inl (omega (arith, ints))))
first_of f [] (pos zero) = inr (inr (λ k c. Contains-none k c))
first_of f (j ∷ js) (pos zero) = by (first_of f js (f j))
  where
    zero_at : (z : ℤ) → (pos 0 <ℤ z) ⊎ ((pos 0 <ℤ neg_ℤ z) ⊎ (z ≡ pos 0))
    zero_at (pos zero) = inr (inr refl)
    zero_at (pos (suc n)) = inl (omega (arith, ints))
    zero_at (negsuc n) = inr (inl (omega (arith, ints)))

    none : ((k : ℕ) → Contains js k → f k ≡ pos 0) → f j ≡ pos 0 → (k : ℕ) → Contains (j ∷ js) k → f k ≡ pos 0
    none rest e k c = ⊎_elim (λ q. ap f q ∙ e) (rest k) (Contains-cases k j js c)

    by : IsFirstPositive (f j ∷ map f js) ⊎ (IsFirstPositive (neg_ℤ (f j) ∷ map (λ k. neg_ℤ (f k)) js) ⊎ ((k : ℕ) → Contains js k → f k ≡ pos 0))
        → IsFirstPositive (pos 0 ∷ map f (j ∷ js)) ⊎ (IsFirstPositive (neg_ℤ (pos 0) ∷ map (λ k. neg_ℤ (f k)) (j ∷ js)) ⊎ ((k : ℕ) → Contains (j ∷ js) k → f k ≡ pos 0))
    by (inl p) = inl (inr (refl, p))
    by (inr (inl p)) = inr (inl (inr (refl, p)))
    by (inr (inr rest)) =
        ⊎_elim (λ p. inl (inr (refl, inl p))) (λ q. ⊎_elim (λ p. inr (inl (inr (refl, inl p)))) (λ e. inr (inr (none rest e))) q) (zero_at (f j))

-- whether it is
decide_first_positive : (zs : List ℤ) → Decided (IsFirstPositive zs)
decide_first_positive [] = inr (λ q. q)
decide_first_positive (pos (suc n) ∷ zs) = inl (inl (omega (arith, ints)))
decide_first_positive (negsuc n ∷ zs) = inr below
  where
    below : (pos 0 <ℤ negsuc n) ⊎ ((negsuc n ≡ pos 0) × IsFirstPositive zs) → ⊥
    below (inl l) = absurd (omega (arith, ints, l))
    below (inr (e, q)) = absurd (omega (arith, ints, e))
decide_first_positive (pos zero ∷ zs) = ⊎_elim (λ q. inl (inr (refl, q))) (λ n. inr (level n)) (decide_first_positive zs)
  where
    level : (IsFirstPositive zs → ⊥) → (pos 0 <ℤ pos 0) ⊎ ((pos 0 ≡ pos 0) × IsFirstPositive zs) → ⊥
    level n (inl l) = absurd (omega (arith, ints, l))
    level n (inr (e, q)) = n q

-- ---- push coefficients as sums

abbrev pub four_factors : ℤ → ℤ → ℤ → ℤ → ℤ → ℤ → ℤ → ℤ → ℤ → ℤ → ℤ
four_factors size l1 l2 l3 l4 o o1 o2 o3 o4 = size *ℤ o -ℤ (l1 *ℤ o1 +ℤ l2 *ℤ o2 +ℤ l3 *ℤ o3 +ℤ l4 *ℤ o4)

-- five different numbers
pub record AreFive (a b c d p : ℕ) : Type 0 where
  pub ab : a ≢ b
  pub ac : a ≢ c
  pub ad : a ≢ d
  pub bc : b ≢ c
  pub bd : b ≢ d
  pub cd : c ≢ d
  pub pa : p ≢ a
  pub pb : p ≢ b
  pub pc : p ≢ c
  pub pd : p ≢ d

module _ (a b c d p : ℕ) (five : AreFive a b c d p) (size l1 l2 l3 l4 : ℤ) where
  abbrev factors_at : ℕ → ℤ
  factors_at k = four_factors size l1 l2 l3 l4 (one_at p k) (one_at a k) (one_at b k) (one_at c k) (one_at d k)

  at_numbers : (o o1 o2 o3 o4 : ℤ) (k : ℕ) → one_at p k ≡ o → one_at a k ≡ o1 → one_at b k ≡ o2 → one_at c k ≡ o3 → one_at d k ≡ o4
      → four_factors size l1 l2 l3 l4 o o1 o2 o3 o4 ≡ factors_at k
  at_numbers o o1 o2 o3 o4 k e e1 e2 e3 e4 = λ i. four_factors size l1 l2 l3 l4 (sym e i) (sym e1 i) (sym e2 i) (sym e3 i) (sym e4 i)

  -- k is m, and m is not j
  off : (j k m : ℕ) → k ≡ m → m ≢ j → one_at j k ≡ pos 0
  off j k m e n = one_elsewhere j k (λ q. n (sym e ∙ q))

  flip : {m n : ℕ} → m ≢ n → n ≢ m
  flip h e = h (sym e)

  push_is : (k : ℕ) → push_coefficient size (a, l1) (b, l2) (c, l3) (d, l4) p k ≡ factors_at k
  push_is k =
      cond_is (k == p) _ _ _ (λ t. let e = same_from_test k p t in
      omega (arith, ints) ∙ at_numbers (pos 1) (pos 0) (pos 0) (pos 0) (pos 0) k (one_here p k e) (off a k p e five.pa) (off b k p e five.pb) (off c k p e five.pc) (off d k p e five.pd))
      (λ np. cond_is (k == a) _ _ _ (λ t. let e = same_from_test k a t in
      omega (arith, ints) ∙ at_numbers (pos 0) (pos 1) (pos 0) (pos 0) (pos 0) k (one_elsewhere p k (other_from_test k p np)) (one_here a k e) (off b k a e five.ab) (off c k a e five.ac) (off d k a e five.ad))
      (λ na. cond_is (k == b) _ _ _ (λ t. let e = same_from_test k b t in
      omega (arith, ints) ∙ at_numbers (pos 0) (pos 0) (pos 1) (pos 0) (pos 0) k (one_elsewhere p k (other_from_test k p np)) (one_elsewhere a k (other_from_test k a na)) (one_here b k e) (off c k b e five.bc) (off d k b e five.bd))
      (λ nb. cond_is (k == c) _ _ _ (λ t. let e = same_from_test k c t in
      omega (arith, ints) ∙ at_numbers (pos 0) (pos 0) (pos 0) (pos 1) (pos 0) k (one_elsewhere p k (other_from_test k p np)) (one_elsewhere a k (other_from_test k a na)) (one_elsewhere b k (other_from_test k b nb)) (one_here c k e) (off d k c e five.cd))
      (λ nc. cond_is (k == d) _ _ _ (λ t. let e = same_from_test k d t in
      omega (arith, ints) ∙ at_numbers (pos 0) (pos 0) (pos 0) (pos 0) (pos 1) k (one_elsewhere p k (other_from_test k p np)) (one_elsewhere a k (other_from_test k a na)) (one_elsewhere b k (other_from_test k b nb)) (one_elsewhere c k (other_from_test k c nc)) (one_here d k e))
      (λ nd. omega (arith, ints) ∙ at_numbers (pos 0) (pos 0) (pos 0) (pos 0) (pos 0) k (one_elsewhere p k (other_from_test k p np)) (one_elsewhere a k (other_from_test k a na)) (one_elsewhere b k (other_from_test k b nb)) (one_elsewhere c k (other_from_test k c nc)) (one_elsewhere d k (other_from_test k d nd)))))))

  abbrev fourE : Expression → Expression → Expression → Expression → Expression → Expression
  fourE o o1 o2 o3 o4 = minus (times (var 0) o) (plus (plus (plus (times (var 1) o1) (times (var 2) o2)) (times (var 3) o3)) (times (var 4) o4))

  -- the weights of the coefficients
  push_weighed : (bound : ℕ) (ks : List ℕ) → weighed bound (push_coefficient size (a, l1) (b, l2) (c, l3) (d, l4) p) ks
      ≡ four_factors size l1 l2 l3 l4 (weighed bound (one_at p) ks) (weighed bound (one_at a) ks) (weighed bound (one_at b) ks) (weighed bound (one_at c) ks) (weighed bound (one_at d) ks)
  push_weighed bound [] = omega (arith, ints)
  push_weighed bound (k ∷ ks) =
      (λ i. pos (weight bound ks) *ℤ push_is k i +ℤ push_weighed bound ks i)
      ∙ added (pos (weight bound ks)) (one_at p k) (one_at a k) (one_at b k) (one_at c k) (one_at d k)
      (weighed bound (one_at p) ks) (weighed bound (one_at a) ks) (weighed bound (one_at b) ks) (weighed bound (one_at c) ks) (weighed bound (one_at d) ks)
    where
      added : (t o o1 o2 o3 o4 u u1 u2 u3 u4 : ℤ) → t *ℤ four_factors size l1 l2 l3 l4 o o1 o2 o3 o4 +ℤ four_factors size l1 l2 l3 l4 u u1 u2 u3 u4
          ≡ four_factors size l1 l2 l3 l4 (t *ℤ o +ℤ u) (t *ℤ o1 +ℤ u1) (t *ℤ o2 +ℤ u2) (t *ℤ o3 +ℤ u3) (t *ℤ o4 +ℤ u4)
      added t o o1 o2 o3 o4 u u1 u2 u3 u4 =
          let s = λ (i : ℕ). plus (times (var 5) (var i)) (var (i + 5)) in
          ring (size ∷ l1 ∷ l2 ∷ l3 ∷ l4 ∷ t ∷ o ∷ o1 ∷ o2 ∷ o3 ∷ o4 ∷ u ∷ u1 ∷ u2 ∷ u3 ∷ u4 ∷ [])
          (plus (times (var 5) (fourE (var 6) (var 7) (var 8) (var 9) (var 10))) (fourE (var 11) (var 12) (var 13) (var 14) (var 15)))
          (fourE (s 6) (s 7) (s 8) (s 9) (s 10)) refl

  pub push_small : (bound : ℕ) → unsigned_abs size ≤ bound → unsigned_abs l1 ≤ bound → unsigned_abs l2 ≤ bound → unsigned_abs l3 ≤ bound → unsigned_abs l4 ≤ bound
      → (k : ℕ) → unsigned_abs (push_coefficient size (a, l1) (b, l2) (c, l3) (d, l4) p k) ≤ bound
  push_small bound s s1 s2 s3 s4 k =
      by (k == p) size _ s
      (by (k == a) (neg_ℤ l1) _ (turned l1 s1)
      (by (k == b) (neg_ℤ l2) _ (turned l2 s2)
      (by (k == c) (neg_ℤ l3) _ (turned l3 s3)
      (by (k == d) (neg_ℤ l4) (pos 0) (turned l4 s4) (omega (arith, ints))))))
    where
      by : (t : Bool) (x y : ℤ) → unsigned_abs x ≤ bound → unsigned_abs y ≤ bound → unsigned_abs (cond t x y) ≤ bound
      by true x y l m = l
      by false x y l m = m

      turned : (z : ℤ) → unsigned_abs z ≤ bound → unsigned_abs (neg_ℤ z) ≤ bound
      turned z l = omega (arith, ints, l)

-- ---- points

-- Cramer's rule in one coordinate, times a number
mixed : (s size l1 l2 l3 l4 x y1 y2 y3 y4 : ℤ) → size *ℤ x ≡ l1 *ℤ y1 +ℤ l2 *ℤ y2 +ℤ l3 *ℤ y3 +ℤ l4 *ℤ y4
    → (s *ℤ size) *ℤ x ≡ (s *ℤ l1) *ℤ y1 +ℤ ((s *ℤ l2) *ℤ y2 +ℤ ((s *ℤ l3) *ℤ y3 +ℤ (s *ℤ l4) *ℤ y4))
mixed s size l1 l2 l3 l4 x y1 y2 y3 y4 e =
    ring (s ∷ size ∷ x ∷ []) (times (times (var 0) (var 1)) (var 2)) (times (var 0) (times (var 1) (var 2))) refl
    ∙ ap (λ z. s *ℤ z) e
    ∙ (let t = λ (i : ℕ). times (var i) (var (i + 4)) in
    let u = λ (i : ℕ). times (times (var 0) (var i)) (var (i + 4)) in
    ring (s ∷ l1 ∷ l2 ∷ l3 ∷ l4 ∷ y1 ∷ y2 ∷ y3 ∷ y4 ∷ []) (times (var 0) (plus (plus (plus (t 1) (t 2)) (t 3)) (t 4))) (plus (u 1) (plus (u 2) (plus (u 3) (u 4)))) refl)

module _ (w : List ℤ) (order : List ℕ) where
  abbrev pub whole : ℕ → ℤ
  whole k = pos (weight volume_bound order) *ℤ height w k +ℤ weighed volume_bound (one_at k) order

  -- what decides, weighed
  whole_factors : (size l1 l2 l3 l4 : ℤ) (a b c d p : ℕ)
      → pos (weight volume_bound order) *ℤ four_factors size l1 l2 l3 l4 (height w p) (height w a) (height w b) (height w c) (height w d)
      +ℤ four_factors size l1 l2 l3 l4 (weighed volume_bound (one_at p) order) (weighed volume_bound (one_at a) order) (weighed volume_bound (one_at b) order) (weighed volume_bound (one_at c) order) (weighed volume_bound (one_at d) order)
      ≡ four_factors size l1 l2 l3 l4 (whole p) (whole a) (whole b) (whole c) (whole d)
  whole_factors size l1 l2 l3 l4 a b c d p =
      let fourE = λ (o o1 o2 o3 o4 : Expression). minus (times (var 0) o) (plus (plus (plus (times (var 1) o1) (times (var 2) o2)) (times (var 3) o3)) (times (var 4) o4)) in
      let s = λ (i : ℕ). plus (times (var 5) (var i)) (var (i + 5)) in
      let ties = λ (k : ℕ). weighed volume_bound (one_at k) order in
      ring (size ∷ l1 ∷ l2 ∷ l3 ∷ l4 ∷ pos (weight volume_bound order) ∷ height w p ∷ height w a ∷ height w b ∷ height w c ∷ height w d ∷ ties p ∷ ties a ∷ ties b ∷ ties c ∷ ties d ∷ [])
      (plus (times (var 5) (fourE (var 6) (var 7) (var 8) (var 9) (var 10))) (fourE (var 11) (var 12) (var 13) (var 14) (var 15)))
      (fourE (s 6) (s 7) (s 8) (s 9) (s 10)) refl

  module _ (xs : List Point) (a b c d p : ℕ) (independent : volume (place_of_point xs) whole a b c d ≢ pos 0) where
    abbrev at : ℕ → Vector
    at = place_of_point xs

    abbrev det : ℕ → ℕ → ℕ → ℕ → ℤ
    det i j k l = det4 (at i) (at j) (at k) (at l)

    abbrev side : ℤ
    side = sign (det a b c d)

    -- the multipliers of p: determinants, with the sign that makes the first positive
    abbrev size0 : ℤ
    size0 = side *ℤ det a b c d

    abbrev m1 : ℤ
    m1 = side *ℤ det p b c d

    abbrev m2 : ℤ
    m2 = side *ℤ det a p c d

    abbrev m3 : ℤ
    m3 = side *ℤ det a b p d

    abbrev m4 : ℤ
    m4 = side *ℤ det a b c p

    mix : multiple size0 (at p) ≡ vector_sum (multiple m1 (at a)) (vector_sum (multiple m2 (at b)) (vector_sum (multiple m3 (at c)) (multiple m4 (at d))))
    mix =
        let by = mixed side (det a b c d) (det p b c d) (det a p c d) (det a b p d) (det a b c p) in
        λ i. record {
          x1 = by (at p).x1 (at a).x1 (at b).x1 (at c).x1 (at d).x1 (cramer1 (at a) (at b) (at c) (at d) (at p)) i;
          x2 = by (at p).x2 (at a).x2 (at b).x2 (at c).x2 (at d).x2 (cramer2 (at a) (at b) (at c) (at d) (at p)) i;
          x3 = by (at p).x3 (at a).x3 (at b).x3 (at c).x3 (at d).x3 (cramer3 (at a) (at b) (at c) (at d) (at p)) i;
          x4 = by (at p).x4 (at a).x4 (at b).x4 (at c).x4 (at d).x4 (cramer4 (at a) (at b) (at c) (at d) (at p)) i;
        }

    combination : IsCombination xs a b c d p size0 m1 m2 m3 m4
    combination = record { size_is = sym (size_of_sign (det a b c d)); mix = mix }

    abbrev coefficient : ℕ → ℤ
    coefficient = push_coefficient size0 (a, m1) (b, m2) (c, m3) (d, m4) p

    abbrev head : ℤ
    head = four_factors size0 m1 m2 m3 m4 (height w p) (height w a) (height w b) (height w c) (height w d)

    -- at any heights
    signed_rise : (h : ℕ → ℤ) → four_factors size0 m1 m2 m3 m4 (h p) (h a) (h b) (h c) (h d) ≡ side *ℤ rise at h a b c d p
    signed_rise h =
        let t = λ (i : ℕ). times (var i) (var (i + 5)) in
        let u = λ (i : ℕ). times (times (var 11) (var i)) (var (i + 5)) in
        ring (det a b c d ∷ det p b c d ∷ det a p c d ∷ det a b p d ∷ det a b c p ∷ h p ∷ h a ∷ h b ∷ h c ∷ h d ∷ pos 0 ∷ side ∷ [])
        (minus (u 0) (plus (plus (plus (u 1) (u 2)) (u 3)) (u 4)))
        (times (var 11) (minus (t 0) (plus (plus (plus (t 1) (t 2)) (t 3)) (t 4)))) refl

    lex_leads : IsLexAbove xs w order a b c d p → IsFirstPositive (head ∷ map coefficient order)
    lex_leads r = rises_of_above xs w order a b c d p size0 m1 m2 m3 m4 independent combination r

    leads_lex : IsFirstPositive (head ∷ map coefficient order) → IsLexAbove xs w order a b c d p
    leads_lex f = record { l1 = m1; l2 = m2; l3 = m3; l4 = m4; size = size0; combination = combination; above = f }

    pub decide_lex : Decided (IsLexAbove xs w order a b c d p)
    decide_lex = ⊎_elim (λ f. inl (leads_lex f)) (λ n. inr (λ r. n (lex_leads r))) (decide_first_positive (head ∷ map coefficient order))

    module _ (five : AreFive a b c d p) (in_order : Contains order p)
        (sa : IsSmall (place_of_point xs a)) (sb : IsSmall (place_of_point xs b)) (sc : IsSmall (place_of_point xs c)) (sd : IsSmall (place_of_point xs d)) (sp : IsSmall (place_of_point xs p)) where
      coefficient_small : (k : ℕ) → unsigned_abs (coefficient k) ≤ volume_bound
      coefficient_small =
          let small = λ (y : ℤ) (l : unsigned_abs y ≤ volume_bound). signed_small (det a b c d) y volume_bound l in
          push_small a b c d p five size0 m1 m2 m3 m4 volume_bound
          (small (det a b c d) (volume_small (at a) (at b) (at c) (at d) sa sb sc sd))
          (small (det p b c d) (volume_small (at p) (at b) (at c) (at d) sp sb sc sd))
          (small (det a p c d) (volume_small (at a) (at p) (at c) (at d) sa sp sc sd))
          (small (det a b p d) (volume_small (at a) (at b) (at p) (at d) sa sb sp sd))
          (small (det a b c p) (volume_small (at a) (at b) (at c) (at p) sa sb sc sp))

      weighed_rise : pos (weight volume_bound order) *ℤ head +ℤ weighed volume_bound coefficient order ≡ side *ℤ rise at whole a b c d p
      weighed_rise =
          ap (λ z. pos (weight volume_bound order) *ℤ head +ℤ z) (push_weighed a b c d p five size0 m1 m2 m3 m4 volume_bound order)
          ∙ whole_factors size0 m1 m2 m3 m4 a b c d p ∙ signed_rise whole

      leads_rises : IsFirstPositive (head ∷ map coefficient order) → pos 0 <ℤ (side *ℤ rise at whole a b c d p)
      leads_rises l = subst (λ y. pos 0 <ℤ y) weighed_rise (leader_decides volume_bound coefficient coefficient_small order head l)

      -- where the first number is negative, p is below
      trails_falls : IsFirstPositive (neg_ℤ head ∷ map (λ k. neg_ℤ (coefficient k)) order) → pos 0 <ℤ neg_ℤ (side *ℤ rise at whole a b c d p)
      trails_falls l =
          subst (λ y. pos 0 <ℤ y) (ap (λ z. pos (weight volume_bound order) *ℤ neg_ℤ head +ℤ z) (turned order) ∙ out (pos (weight volume_bound order)) head (weighed volume_bound coefficient order) ∙ ap neg_ℤ weighed_rise)
          (leader_decides volume_bound (λ k. neg_ℤ (coefficient k)) (λ k. small (coefficient k) (coefficient_small k)) order (neg_ℤ head) l)
        where
          small : (z : ℤ) → unsigned_abs z ≤ volume_bound → unsigned_abs (neg_ℤ z) ≤ volume_bound
          small z k = omega (arith, ints, k)

          out : (t z r : ℤ) → t *ℤ neg_ℤ z +ℤ neg_ℤ r ≡ neg_ℤ (t *ℤ z +ℤ r)
          out t z r = ring (t ∷ z ∷ r ∷ []) (plus (times (var 0) (neg (var 1))) (neg (var 2))) (neg (plus (times (var 0) (var 1)) (var 2))) refl

          turned : (ks : List ℕ) → weighed volume_bound (λ k. neg_ℤ (coefficient k)) ks ≡ neg_ℤ (weighed volume_bound coefficient ks)
          turned [] = refl
          turned (k ∷ ks) = ap (λ z. pos (weight volume_bound ks) *ℤ neg_ℤ (coefficient k) +ℤ z) (turned ks) ∙ out (pos (weight volume_bound ks)) (coefficient k) (weighed volume_bound coefficient ks)

      -- the coefficient of p itself is not 0
      some_coefficient : ((k : ℕ) → Contains order k → coefficient k ≡ pos 0) → ⊥
      some_coefficient none = no (det a b c d) independent (size_of_sign (det a b c d) ∙ sym (at_itself (p == p) refl) ∙ none p in_order)
        where
          at_itself : (t : Bool) → (p == p) ≡ t → coefficient p ≡ size0
          at_itself true e = ap (λ s. cond s size0 (cond (p == a) (neg_ℤ m1) (cond (p == b) (neg_ℤ m2) (cond (p == c) (neg_ℤ m3) (cond (p == d) (neg_ℤ m4) (pos 0)))))) e
          at_itself false e = absurd (other_from_test p p e refl)

          no : (z : ℤ) → z ≢ pos 0 → pos (unsigned_abs z) ≡ pos 0 → ⊥
          no z n e = absurd (let l = size_above z n in omega (arith, ints, l, e))

      decided : IsFirstPositive (head ∷ map coefficient order) ⊎ (pos 0 <ℤ neg_ℤ (side *ℤ rise at whole a b c d p))
      decided = by (first_of coefficient order head)
        where
          by : IsFirstPositive (head ∷ map coefficient order) ⊎ (IsFirstPositive (neg_ℤ head ∷ map (λ k. neg_ℤ (coefficient k)) order) ⊎ ((k : ℕ) → Contains order k → coefficient k ≡ pos 0))
              → IsFirstPositive (head ∷ map coefficient order) ⊎ (pos 0 <ℤ neg_ℤ (side *ℤ rise at whole a b c d p))
          by (inl l) = inl l
          by (inr (inl l)) = inr (trails_falls l)
          by (inr (inr none)) = absurd (some_coefficient none)

      pub lex_rises : IsLexAbove xs w order a b c d p → pos 0 <ℤ (det a b c d *ℤ rise at whole a b c d p)
      lex_rises r = sign_out (det a b c d) (rise at whole a b c d p) independent (leads_rises (lex_leads r))

      rises_lead : pos 0 <ℤ (det a b c d *ℤ rise at whole a b c d p) → IsFirstPositive (head ∷ map coefficient order)
      rises_lead l = ⊎_elim (λ f. f) (λ f. absurd (no (side *ℤ rise at whole a b c d p) (sign_in (det a b c d) (rise at whole a b c d p) independent l) f)) decided
        where
          no : (z : ℤ) → pos 0 <ℤ z → pos 0 <ℤ neg_ℤ z → ⊥
          no z k m = absurd (omega (arith, ints, k, m))

      pub rises_lex : pos 0 <ℤ (det a b c d *ℤ rise at whole a b c d p) → IsLexAbove xs w order a b c d p
      rises_lex l = leads_lex (rises_lead l)

      -- what rises at the heights themselves rises at the whole heights, and what rises there does not fall at the heights
      pub rises_up : pos 0 <ℤ (det a b c d *ℤ rise at (height w) a b c d p) → pos 0 <ℤ (det a b c d *ℤ rise at whole a b c d p)
      rises_up l =
          sign_out (det a b c d) (rise at whole a b c d p) independent
          (leads_rises (inl (subst (λ z. pos 0 <ℤ z) (sym (signed_rise (height w))) (sign_in (det a b c d) (rise at (height w) a b c d p) independent l))))

      pub rises_least : pos 0 <ℤ (det a b c d *ℤ rise at whole a b c d p) → pos 0 ≤ℤ (det a b c d *ℤ rise at (height w) a b c d p)
      rises_least l = sign_out_least (det a b c d) (rise at (height w) a b c d p) (subst (λ z. pos 0 ≤ℤ z) (signed_rise (height w)) (by head (rises_lead l)))
        where
          by : (z : ℤ) → IsFirstPositive (z ∷ map coefficient order) → pos 0 ≤ℤ z
          by z (inl k) = not_negative z k
          by z (inr (e, q)) = zero_not_negative z e

      pub never_level : rise at whole a b c d p ≢ pos 0
      never_level e = ⊎_elim (λ f. above (leads_rises f)) (λ f. below f) decided
        where
          level : side *ℤ rise at whole a b c d p ≡ pos 0
          level = ap (λ z. side *ℤ z) e ∙ ring (side ∷ []) (times (var 0) (num (pos 0))) (num (pos 0)) refl

          above : pos 0 <ℤ (side *ℤ rise at whole a b c d p) → ⊥
          above k = by _ level k
            where
              by : (z : ℤ) → z ≡ pos 0 → pos 0 <ℤ z → ⊥
              by z q m = absurd (omega (arith, ints, q, m))

          below : pos 0 <ℤ neg_ℤ (side *ℤ rise at whole a b c d p) → ⊥
          below k = by _ level k
            where
              by : (z : ℤ) → z ≡ pos 0 → pos 0 <ℤ neg_ℤ z → ⊥
              by z q m = absurd (omega (arith, ints, q, m))
