-- Three vectors that are independent of some fourth one have an area in two coordinates.
use Rattle.std.proofs.Common.{◌≡◌, ◌≢◌, ℕ, ◌+◌, inl, inr, refl, ◌∙◌, arith, ℤ, pos, ◌+ℤ◌, ◌-ℤ◌, ◌*ℤ◌}
use Rattle.std.proofs.lemmas.Int.{ints}
use Rattle.ntfe_nums.specs.Vectors.{Vector, area, det4}
use Rattle.ntfe_nums.proofs.Ring.{Expression, ring}
use Rattle.ntfe_nums.proofs.Ring.Expression.{var, plus, minus, times}
use Rattle.ntfe_nums.proofs.DetLemmas.{row, det4E, of4}
use Rattle.ntfe_model.specs.Points.{SpanPlane}
use Rattle.ntfe_model.proofs.Triples.{Decided, decide_integer}

minors : (a b c p : Vector) → det4 a b c p
    ≡ area (1, 2) a b c *ℤ (a.x3 *ℤ p.x4 -ℤ a.x4 *ℤ p.x3) -ℤ area (1, 3) a b c *ℤ (a.x2 *ℤ p.x4 -ℤ a.x4 *ℤ p.x2) +ℤ area (1, 4) a b c *ℤ (a.x2 *ℤ p.x3 -ℤ a.x3 *ℤ p.x2)
    +ℤ area (2, 3) a b c *ℤ (a.x1 *ℤ p.x4 -ℤ a.x4 *ℤ p.x1) -ℤ area (2, 4) a b c *ℤ (a.x1 *ℤ p.x3 -ℤ a.x3 *ℤ p.x1) +ℤ area (3, 4) a b c *ℤ (a.x1 *ℤ p.x2 -ℤ a.x2 *ℤ p.x1)
unfolding det4
minors a b c p =
    ring (of4 a b c p) (det4E (row 0) (row 4) (row 8) (row 12))
    (plus (minus (plus (plus (minus (times (areaE 0 1) (pairE 2 3)) (times (areaE 0 2) (pairE 1 3))) (times (areaE 0 3) (pairE 1 2))) (times (areaE 1 2) (pairE 0 3))) (times (areaE 1 3) (pairE 0 2))) (times (areaE 2 3) (pairE 0 1))) refl
  where
    areaE : ℕ → ℕ → Expression
    areaE i j = minus (times (minus (var (4 + i)) (var i)) (minus (var (8 + j)) (var j))) (times (minus (var (4 + j)) (var j)) (minus (var (8 + i)) (var i)))

    pairE : ℕ → ℕ → Expression
    pairE i j = minus (times (var i) (var (12 + j))) (times (var j) (var (12 + i)))

pub plane_spanned : (a b c p : Vector) → det4 a b c p ≢ pos 0 → SpanPlane a b c
plane_spanned a b c p n =
    by (decide_integer (area (1, 2) a b c) (pos 0)) (decide_integer (area (1, 3) a b c) (pos 0)) (decide_integer (area (1, 4) a b c) (pos 0)) (decide_integer (area (2, 3) a b c) (pos 0))
    (decide_integer (area (2, 4) a b c) (pos 0)) (decide_integer (area (3, 4) a b c) (pos 0))
  where
    zeros : (q1 q2 q3 q4 q5 q6 : ℤ) → pos 0 *ℤ q1 -ℤ pos 0 *ℤ q2 +ℤ pos 0 *ℤ q3 +ℤ pos 0 *ℤ q4 -ℤ pos 0 *ℤ q5 +ℤ pos 0 *ℤ q6 ≡ pos 0
    zeros q1 q2 q3 q4 q5 q6 = omega (arith, ints)

    by : Decided (area (1, 2) a b c ≡ pos 0) → Decided (area (1, 3) a b c ≡ pos 0) → Decided (area (1, 4) a b c ≡ pos 0) → Decided (area (2, 3) a b c ≡ pos 0)
        → Decided (area (2, 4) a b c ≡ pos 0) → Decided (area (3, 4) a b c ≡ pos 0) → SpanPlane a b c
    by (inr i) e f g h j = ((1, 2), omega arith, omega arith, omega arith, i)
    by (inl d) (inr i) f g h j = ((1, 3), omega arith, omega arith, omega arith, i)
    by (inl d) (inl e) (inr i) g h j = ((1, 4), omega arith, omega arith, omega arith, i)
    by (inl d) (inl e) (inl f) (inr i) h j = ((2, 3), omega arith, omega arith, omega arith, i)
    by (inl d) (inl e) (inl f) (inl g) (inr i) j = ((2, 4), omega arith, omega arith, omega arith, i)
    by (inl d) (inl e) (inl f) (inl g) (inl h) (inr i) = ((3, 4), omega arith, omega arith, omega arith, i)
    by (inl d) (inl e) (inl f) (inl g) (inl h) (inl j) =
        absurd (n (minors a b c p
        ∙ (λ i. d i *ℤ (a.x3 *ℤ p.x4 -ℤ a.x4 *ℤ p.x3) -ℤ e i *ℤ (a.x2 *ℤ p.x4 -ℤ a.x4 *ℤ p.x2) +ℤ f i *ℤ (a.x2 *ℤ p.x3 -ℤ a.x3 *ℤ p.x2)
        +ℤ g i *ℤ (a.x1 *ℤ p.x4 -ℤ a.x4 *ℤ p.x1) -ℤ h i *ℤ (a.x1 *ℤ p.x3 -ℤ a.x3 *ℤ p.x1) +ℤ j i *ℤ (a.x1 *ℤ p.x2 -ℤ a.x2 *ℤ p.x1))
        ∙ zeros (a.x3 *ℤ p.x4 -ℤ a.x4 *ℤ p.x3) (a.x2 *ℤ p.x4 -ℤ a.x4 *ℤ p.x2) (a.x2 *ℤ p.x3 -ℤ a.x3 *ℤ p.x2) (a.x1 *ℤ p.x4 -ℤ a.x4 *ℤ p.x1) (a.x1 *ℤ p.x3 -ℤ a.x3 *ℤ p.x1) (a.x1 *ℤ p.x2 -ℤ a.x2 *ℤ p.x1)))
