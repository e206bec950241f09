-- Reduced denominators and least common multiples.
use Rattle.std.proofs.Common.{◌≡◌, ℕ, zero, suc, ◌+◌, ◌*◌, ◌/◌, ◌<◌, refl, sym, ap, ◌∙◌, subst, arith}
use Rattle.std.specs.Int.{◌∣◌, IsGcd}
use Rattle.std.proofs.lemmas.Nat.Gcd.{dvd_refl, dvd-zero, dvd_trans, same_from_IsGcd}
use Rattle.std.proofs.Math.Nat.{dvd-mul_right, dvd-mul_left, mul-div_cancel', pos_of_dvd_of_pos, dvd_of_mul-dvd-mul_left, eq-one_of_dvd-one, mul-dvd-mul_left, mul-dvd-mul_right}
use Rattle.strict_solver.specs.Scales.{gcd_of, reduced_denominator, common_multiple}
use Rattle.strict_solver.proofs.Reduced.{gcd_by-is}
use Rattle.strict_solver.proofs.One.{Lowest, lowest, cancels}

some_factor : (g a : ℕ) → 0 < g * a → 0 < a
some_factor g zero h = absurd (omega arith)
some_factor g (suc a) h = omega arith

pub gcd_of-is : (a b : ℕ) → IsGcd a b (gcd_of a b)
unfolding gcd_of
gcd_of-is a b = gcd_by-is b a b (omega arith)

pub quotient_of : (d n : ℕ) → d ∣ n → n ≡ d * (n / d)
quotient_of d n h = sym (mul-div_cancel' d h)

mul_same : (a b c : ℕ) → a * b * c ≡ a * (b * c)
mul_same a b c = omega arith

mul_swap : (a b : ℕ) → a * b ≡ b * a
mul_swap a b = omega arith

-- the quotients by the greatest common divisor are those of the lowest terms
module _ (k n : ℕ) (pk : 0 < k) (pn : 0 < n) where
  l : Lowest k n
  l = lowest (k + n) k n pk pn (omega arith)

  G : ℕ
  G = gcd_of k n

  pub gcd_positive : 0 < gcd_of k n
  gcd_positive = pos_of_dvd_of_pos (gcd_of-is k n).0 pk

  kx : k ≡ gcd_of k n * (k / gcd_of k n)
  kx = quotient_of (gcd_of k n) k (gcd_of-is k n).0

  ny : n ≡ gcd_of k n * (n / gcd_of k n)
  ny = quotient_of (gcd_of k n) n (gcd_of-is k n).1

  crossed : k * (n / gcd_of k n) ≡ n * (k / gcd_of k n)
  crossed =
      ap (λ z. z * (n / gcd_of k n)) kx ∙ mul_same (gcd_of k n) (k / gcd_of k n) (n / gcd_of k n)
      ∙ ap (λ z. gcd_of k n * z) (mul_swap (k / gcd_of k n) (n / gcd_of k n))
      ∙ sym (mul_same (gcd_of k n) (n / gcd_of k n) (k / gcd_of k n)) ∙ ap (λ z. z * (k / gcd_of k n)) (sym ny)

  -- all solutions of k x = n y are multiples of these quotients
  pub solutions : (x y : ℕ) → k * x ≡ n * y → (k / gcd_of k n) ∣ y × (n / gcd_of k n) ∣ x
  solutions x y e =
      let lx = lowest (k + n) k n pk pn (omega arith) in
      let t = lx.all (n / gcd_of k n) (k / gcd_of k n) crossed in
      let s = lx.all x y e in
      let f : gcd_of k n * (lx.a * t.0) ≡ lx.g * lx.a = ap (λ z. gcd_of k n * z) (sym t.2) ∙ sym kx ∙ lx.first in
      let one = unit lx t.0 f in
      let a : k / gcd_of k n ≡ lx.a = t.2 ∙ ap (λ z. lx.a * z) one ∙ plain lx.a in
      let b : n / gcd_of k n ≡ lx.b = t.1 ∙ ap (λ z. lx.b * z) one ∙ plain lx.b in
      (subst (λ z. (k / gcd_of k n) ∣ z) (sym s.2) (subst (λ z. z ∣ (lx.a * s.0)) (sym a) (dvd-mul_right lx.a s.0)), subst (λ z. (n / gcd_of k n) ∣ z) (sym s.1) (subst (λ z. z ∣ (lx.b * s.0)) (sym b) (dvd-mul_right lx.b s.0)))
    where
      plain : (a : ℕ) → a * 1 ≡ a
      plain a = omega arith

      unit : (lx : Lowest k n) (t : ℕ) → gcd_of k n * (lx.a * t) ≡ lx.g * lx.a → t ≡ 1
      unit lx t f =
          let pa : 0 < lx.a = some_factor lx.g lx.a (let e = lx.first in omega arith) in
          let e : gcd_of k n * t ≡ lx.g = cancels lx.a (gcd_of k n * t) lx.g pa (turn lx.a (gcd_of k n) t ∙ f ∙ mul_swap lx.g lx.a) in
          let below : lx.g ∣ gcd_of k n = (gcd_of-is k n).2 lx.g (subst (λ z. lx.g ∣ z) (sym lx.first) (dvd-mul_right lx.g lx.a)) (subst (λ z. lx.g ∣ z) (sym lx.second) (dvd-mul_right lx.g lx.b)) in
          eq-one_of_dvd-one (dvd_of_mul-dvd-mul_left t gcd_positive (subst (λ z. (gcd_of k n * t) ∣ z) (let h : gcd_of k n ≡ gcd_of k n * 1 = omega arith in h) (subst (λ z. z ∣ gcd_of k n) (sym e) below)))
        where
          turn : (a g t : ℕ) → a * (g * t) ≡ g * (a * t)
          turn a g t = omega arith

-- ---- the reduced denominator
module _ (d c : ℕ) (pd : 0 < d) where
  pub reduced_positive : 0 < reduced_denominator d c
  reduced_positive = some_factor (gcd_of d c) (d / gcd_of d c) (let e = quotient_of (gcd_of d c) d (gcd_of-is d c).0 in omega arith)

  -- the number makes c / d whole exactly where the reduced denominator divides it
  pub whole_when : (j : ℕ) → reduced_denominator d c ∣ j → d ∣ j * c
  whole_when j h =
      let g = gcd_of d c in
      let i = gcd_of-is d c in
      let e : d ≡ (d / g) * g = quotient_of g d i.0 ∙ mul_swap g (d / g) in
      subst (λ z. z ∣ j * c) (sym e) (dvd_trans ((d / g) * g) (mul-dvd-mul_right (d / g) h g) (mul-dvd-mul_left g j i.1))

  pub whole_only : (j : ℕ) → d ∣ j * c → reduced_denominator d c ∣ j
  whole_only j h = by c refl
    where
      by : (n : ℕ) → c ≡ n → reduced_denominator d c ∣ j
      by zero e = subst (λ z. z ∣ j) (sym one) (one_divides j)
        where
          all : gcd_of d c ≡ d
          all = same_from_IsGcd d c (gcd_of d c) d (gcd_of-is d c) (dvd_refl d, subst (λ z. d ∣ z) (sym e) (dvd-zero d), λ m p q. p)

          one : reduced_denominator d c ≡ 1
          one = cancels d (d / gcd_of d c) 1 pd (ap (λ z. z * (d / gcd_of d c)) (sym all) ∙ sym (quotient_of (gcd_of d c) d (gcd_of-is d c).0) ∙ (let f : d ≡ d * 1 = omega arith in f))

          one_divides : (n : ℕ) → 1 ∣ n
          one_divides n = subst (λ z. 1 ∣ z) (let f : 1 * n ≡ n = omega arith in f) (dvd-mul_right 1 n)
      by (suc n) e =
          let x = (j * c) / d in
          (solutions d c pd (omega arith) x j (sym (quotient_of d (j * c) h) ∙ mul_swap j c)).0

-- ---- the least common multiple
module _ (m n : ℕ) (pm : 0 < m) (pn : 0 < n) where
  pub multiple_first : m ∣ common_multiple m n
  multiple_first = dvd-mul_right m (n / gcd_of m n)

  pub multiple_second : n ∣ common_multiple m n
  multiple_second = subst (λ z. n ∣ z) (sym (crossed m n pm pn)) (dvd-mul_right n (m / gcd_of m n))

  pub multiple_least : (j : ℕ) → m ∣ j → n ∣ j → common_multiple m n ∣ j
  multiple_least j p q =
      let x = j / m in
      let s = solutions m n pm pn x (j / n) (sym (quotient_of m j p) ∙ quotient_of n j q) in
      subst (λ z. common_multiple m n ∣ z) (sym (quotient_of m j p)) (mul-dvd-mul_left (n / gcd_of m n) m s.1)

  pub multiple_positive : 0 < common_multiple m n
  multiple_positive = pos_of_dvd_of_pos multiple_first' (some_product m n pm pn)
    where
      some_product : (m n : ℕ) → 0 < m → 0 < n → 0 < m * n
      some_product (suc m) (suc n) h i = omega arith
      some_product zero n h i = absurd (omega arith)
      some_product (suc m) zero h i = absurd (omega arith)

      multiple_first' : common_multiple m n ∣ m * n
      multiple_first' = multiple_least (m * n) (dvd-mul_right m n) (dvd-mul_left n m)

pub gcd_first_positive : (k n : ℕ) → 0 < k → 0 < gcd_of k n
gcd_first_positive k n p = pos_of_dvd_of_pos (gcd_of-is k n).0 p
