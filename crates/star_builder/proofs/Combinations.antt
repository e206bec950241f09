-- A point as a combination of four others: Cramer's rule gives the multipliers, and where the four are independent there are no others.
use Rattle.std.proofs.Common.{◌≡◌, ℕ, ◌∙◌, refl, sym, ap, subst, ℤ, pos, negsuc, ◌+ℤ◌, ◌-ℤ◌, ◌*ℤ◌, ◌<ℤ◌, ◌≤ℤ◌, neg_ℤ, List, [], ◌∷◌, map, unsigned_abs, arith}
use Rattle.std.proofs.lemmas.Int.{ints}
use Rattle.ntfe_nums.specs.Vectors.{Vector, vector_sum, multiple, det4, AreLinearlyIndependent}
use Rattle.ntfe_model.specs.Points.{place_of_point}
use Rattle.ntfe_model.specs.Choices.{height}
use Rattle.ntfe_model.specs.Stars.{IsCombination, IsLexAbove, IsFirstPositive, push_coefficient}
use Rattle.ntfe_model.specs.declared.point.Point.{Point}
use Rattle.ntfe_nums.proofs.Ring.{ring}
use Rattle.ntfe_nums.proofs.Ring.Expression.{var, plus, times, neg}
use Rattle.star_builder.proofs.FourPoints.{factors_fixed}
use Rattle.star_builder.proofs.FourWeights.{cramer}

-- z, turned over where the determinant is negative
abbrev pub turned : ℤ → ℤ → ℤ
turned (pos n) z = z
turned (negsuc n) z = neg_ℤ z

-- ---- Cramer's rule

turned_vector : (t : ℤ) (k l m n : ℤ) (a b c d p : Vector)
    → multiple t p ≡ vector_sum (multiple k a) (vector_sum (multiple l b) (vector_sum (multiple m c) (multiple n d)))
    → multiple (pos (unsigned_abs t)) p ≡ vector_sum (multiple (turned t k) a) (vector_sum (multiple (turned t l) b) (vector_sum (multiple (turned t m) c) (multiple (turned t n) d)))
turned_vector (pos t) k l m n a b c d p e = e
turned_vector (negsuc t) k l m n a b c d p e = λ i. record {
  x1 = (both a.x1 b.x1 c.x1 d.x1 p.x1 (ap (λ v. v.x1) e)) i;
  x2 = (both a.x2 b.x2 c.x2 d.x2 p.x2 (ap (λ v. v.x2) e)) i;
  x3 = (both a.x3 b.x3 c.x3 d.x3 p.x3 (ap (λ v. v.x3) e)) i;
  x4 = (both a.x4 b.x4 c.x4 d.x4 p.x4 (ap (λ v. v.x4) e)) i;
}
  where
    both : (x y z u q : ℤ) → negsuc t *ℤ q ≡ k *ℤ x +ℤ (l *ℤ y +ℤ (m *ℤ z +ℤ n *ℤ u))
        → neg_ℤ (negsuc t) *ℤ q ≡ neg_ℤ k *ℤ x +ℤ (neg_ℤ l *ℤ y +ℤ (neg_ℤ m *ℤ z +ℤ neg_ℤ n *ℤ u))
    both x y z u q f =
        ring (negsuc t ∷ q ∷ []) (times (neg (var 0)) (var 1)) (neg (times (var 0) (var 1))) refl
        ∙ ap neg_ℤ f
        ∙ ring (k ∷ l ∷ m ∷ n ∷ x ∷ y ∷ z ∷ u ∷ [])
        (neg (plus (times (var 0) (var 4)) (plus (times (var 1) (var 5)) (plus (times (var 2) (var 6)) (times (var 3) (var 7))))))
        (plus (times (neg (var 0)) (var 4)) (plus (times (neg (var 1)) (var 5)) (plus (times (neg (var 2)) (var 6)) (times (neg (var 3)) (var 7))))) refl

-- the multipliers of a point are determinants with it in the place of one of the four
module _ (xs : List Point) (a b c d p : ℕ) where
  pub combination_exists : IsCombination xs a b c d p
      (pos (unsigned_abs (det4 (place_of_point xs a) (place_of_point xs b) (place_of_point xs c) (place_of_point xs d))))
      (turned (det4 (place_of_point xs a) (place_of_point xs b) (place_of_point xs c) (place_of_point xs d)) (det4 (place_of_point xs p) (place_of_point xs b) (place_of_point xs c) (place_of_point xs d)))
      (turned (det4 (place_of_point xs a) (place_of_point xs b) (place_of_point xs c) (place_of_point xs d)) (det4 (place_of_point xs a) (place_of_point xs p) (place_of_point xs c) (place_of_point xs d)))
      (turned (det4 (place_of_point xs a) (place_of_point xs b) (place_of_point xs c) (place_of_point xs d)) (det4 (place_of_point xs a) (place_of_point xs b) (place_of_point xs p) (place_of_point xs d)))
      (turned (det4 (place_of_point xs a) (place_of_point xs b) (place_of_point xs c) (place_of_point xs d)) (det4 (place_of_point xs a) (place_of_point xs b) (place_of_point xs c) (place_of_point xs p)))
  combination_exists =
      let s = place_of_point xs a in
      let t = place_of_point xs b in
      let u = place_of_point xs c in
      let v = place_of_point xs d in
      let q = place_of_point xs p in
      record {
        size_is = refl;
        mix = turned_vector (det4 s t u v) (det4 q t u v) (det4 s q u v) (det4 s t q v) (det4 s t u q) s t u v q (cramer s t u v q);
      }

-- ---- there are no others

-- two combinations of independent points are the same
pub combination_unique : (xs : List Point) (a b c d p : ℕ) (size l1 l2 l3 l4 size' m1 m2 m3 m4 : ℤ)
    → AreLinearlyIndependent (place_of_point xs a) (place_of_point xs b) (place_of_point xs c) (place_of_point xs d)
    → IsCombination xs a b c d p size l1 l2 l3 l4 → IsCombination xs a b c d p size' m1 m2 m3 m4
    → (size ≡ size') × (l1 ≡ m1) × (l2 ≡ m2) × (l3 ≡ m3) × (l4 ≡ m4)
combination_unique xs a b c d p size l1 l2 l3 l4 size' m1 m2 m3 m4 ne x y =
    let e : size ≡ size' = x.size_is ∙ sym y.size_is in
    let f = factors_fixed (place_of_point xs a) (place_of_point xs b) (place_of_point xs c) (place_of_point xs d) ne l1 l2 l3 l4 m1 m2 m3 m4
    (sym x.mix ∙ ap (λ s. multiple s (place_of_point xs p)) e ∙ y.mix) in
    (e, f.0, f.1, f.2, f.3)

-- ---- what a combination says of the heights

-- how far p lies above the four, by their heights and then by the order of pushing
abbrev pub rises : List ℤ → List ℕ → ℕ → ℕ → ℕ → ℕ → ℕ → ℤ → ℤ → ℤ → ℤ → ℤ → List ℤ
rises w order a b c d p size l1 l2 l3 l4 =
    (size *ℤ height w p -ℤ (l1 *ℤ height w a +ℤ l2 *ℤ height w b +ℤ l3 *ℤ height w c +ℤ l4 *ℤ height w d))
    ∷ map (push_coefficient size (a, l1) (b, l2) (c, l3) (d, l4) p) order

-- any one combination of independent points decides whether p is above them
pub rises_of_above : (xs : List Point) (w : List ℤ) (order : List ℕ) (a b c d p : ℕ) (size l1 l2 l3 l4 : ℤ)
    → AreLinearlyIndependent (place_of_point xs a) (place_of_point xs b) (place_of_point xs c) (place_of_point xs d)
    → IsCombination xs a b c d p size l1 l2 l3 l4 → IsLexAbove xs w order a b c d p → IsFirstPositive (rises w order a b c d p size l1 l2 l3 l4)
rises_of_above xs w order a b c d p size l1 l2 l3 l4 ne x u =
    let e = combination_unique xs a b c d p u.size u.l1 u.l2 u.l3 u.l4 size l1 l2 l3 l4 ne u.combination x in
    subst IsFirstPositive (λ i. rises w order a b c d p (e.0 i) (e.1 i) (e.2 i) (e.3 i) (e.4 i)) u.above

-- ---- the combination that code computes

module _ (xs : List Point) (a b c d p : ℕ) (size l1 l2 l3 l4 : ℤ)
    (es : size ≡ det4 (place_of_point xs a) (place_of_point xs b) (place_of_point xs c) (place_of_point xs d))
    (e1 : l1 ≡ det4 (place_of_point xs p) (place_of_point xs b) (place_of_point xs c) (place_of_point xs d))
    (e2 : l2 ≡ det4 (place_of_point xs a) (place_of_point xs p) (place_of_point xs c) (place_of_point xs d))
    (e3 : l3 ≡ det4 (place_of_point xs a) (place_of_point xs b) (place_of_point xs p) (place_of_point xs d))
    (e4 : l4 ≡ det4 (place_of_point xs a) (place_of_point xs b) (place_of_point xs c) (place_of_point xs p)) where
  combination_by_sign : IsCombination xs a b c d p (pos (unsigned_abs size)) (turned size l1) (turned size l2) (turned size l3) (turned size l4)
  combination_by_sign = subst (λ (u : ℤ × ℤ × ℤ × ℤ × ℤ). IsCombination xs a b c d p (pos (unsigned_abs u.0)) (turned u.0 u.1) (turned u.0 u.2) (turned u.0 u.3) (turned u.0 u.4))
      (λ i. (sym es i, sym e1 i, sym e2 i, sym e3 i, sym e4 i)) (combination_exists xs a b c d p)

  pub combination_plain : pos 0 ≤ℤ size → IsCombination xs a b c d p size l1 l2 l3 l4
  combination_plain h = by size h combination_by_sign
    where
      by : (s : ℤ) → pos 0 ≤ℤ s → IsCombination xs a b c d p (pos (unsigned_abs s)) (turned s l1) (turned s l2) (turned s l3) (turned s l4) → IsCombination xs a b c d p s l1 l2 l3 l4
      by (pos n) h m = m
      by (negsuc n) h m = absurd (omega (arith, ints, h))

  pub combination_turned : size <ℤ pos 0 → IsCombination xs a b c d p (neg_ℤ size) (neg_ℤ l1) (neg_ℤ l2) (neg_ℤ l3) (neg_ℤ l4)
  combination_turned h = by size h combination_by_sign
    where
      by : (s : ℤ) → s <ℤ pos 0 → IsCombination xs a b c d p (pos (unsigned_abs s)) (turned s l1) (turned s l2) (turned s l3) (turned s l4) → IsCombination xs a b c d p (neg_ℤ s) (neg_ℤ l1) (neg_ℤ l2) (neg_ℤ l3) (neg_ℤ l4)
      by (pos n) h m = absurd (omega (arith, ints, h))
      by (negsuc n) h m = m
