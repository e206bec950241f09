-- Sums of two inequalities, and what they leave of an extent.
use Rattle.std.proofs.Common.{◌≡◌, ℕ, ◌≤◌, ◌^◌, refl, sym, ap, ◌∙◌, subst, arith, ℤ, pos, negsuc, ◌+ℤ◌, ◌-ℤ◌, ◌*ℤ◌, ◌≤ℤ◌, List, [], ◌∷◌, get_or, unsigned_abs, w64, to_z, of_z, FitsSigned}
use Rattle.std.specs.Prelude.{All, Contains, ◌↔◌}
use Rattle.std.proofs.lemmas.Int.{ints}
use Rattle.std.proofs.lemmas.List.Elements.{All-contains}
use Rattle.ntfe_nums.specs.Vectors.{Vector, numbers, dot}
use lib.Signed.{≤ℤ_refl}
use Rattle.ntfe_nums.proofs.Ring.{Expression, ring, zero_product, product_zero}
use Rattle.ntfe_nums.proofs.Ring.Expression.{var, num, plus, minus, times}
use Rattle.ntfe_nums.proofs.Machine.{machine, raw, exact, fits, value-size, back, AreWithin-four}
use Rattle.ntfe_nums.specs.Sizes.{AreWithin}
use Rattle.ntfe_model.specs.Pairs.{VertexLists, IsSmall}
use Rattle.ntfe_model.specs.Points.{IsInside}
use Rattle.ntfe_model.proofs.SmallVectors.{small_size, small_coordinates}
use Rattle.lattice_points.specs.declared.bounds.Extent.{Extent}
use Rattle.lattice_points.specs.declared.bounds.Bounds.{Bounds}
use Rattle.lattice_points.specs.declared.inequality.Inequality.{Inequality}
use Rattle.lattice_points.specs.declared.inequality.Cancelled.{Cancelled}
use Rattle.lattice_points.specs.declared.inequality.Cancelled.TheVariants.{Third, Fourth}
use Rattle.lattice_points.specs.declared.sums.Sums.{Sums}
use Rattle.lattice_points.specs.Boxes.{IsWithin, IsSmallExtent, AreBoundsOf}
use Rattle.lattice_points.specs.Inequalities.{IsShort, IsGiven, IsSum, value_at, AreSums}
use Rattle.lattice_points.specs.Lines.{IsOpen}
use Rattle.lattice_points.specs.Scans.{IsOnPlane, IsOnLine, IsOnRow}
use Rattle.lattice_points.proofs.BoxLemmas.{extent_low, extent_high}
use Rattle.lattice_points.proofs.CutLemmas.{short_back, product_rises}

-- ---- what the first two coordinates and the rest give

abbrev levelE : Expression
levelE = plus (plus (times (var 0) (var 1)) (times (var 2) (var 3))) (var 4)

module _ (c1 x1 c2 x2 r : ℤ) (h1 : unsigned_abs c1 ≤ 2 ^ 21) (k1 : unsigned_abs x1 ≤ 1023) (h2 : unsigned_abs c2 ≤ 2 ^ 21) (k2 : unsigned_abs x2 ≤ 1023) (h : unsigned_abs r ≤ 2 ^ 21) where
  pub sum_fits : FitsSigned w64 (raw w64 (c1 ∷ x1 ∷ c2 ∷ x2 ∷ []) (plus (times (var 0) (var 1)) (times (var 2) (var 3))))
  sum_fits = fits w64 (c1 ∷ x1 ∷ c2 ∷ x2 ∷ []) (2 ^ 21 ∷ 1023 ∷ 2 ^ 21 ∷ 1023 ∷ []) (h1, (k1, (h2, (k2, tt)))) (plus (times (var 0) (var 1)) (times (var 2) (var 3))) refl

  pub level_fits : FitsSigned w64 (raw w64 (c1 ∷ x1 ∷ c2 ∷ x2 ∷ r ∷ []) levelE)
  level_fits = fits w64 (c1 ∷ x1 ∷ c2 ∷ x2 ∷ r ∷ []) (2 ^ 21 ∷ 1023 ∷ 2 ^ 21 ∷ 1023 ∷ 2 ^ 21 ∷ []) (h1, (k1, (h2, (k2, (h, tt))))) levelE refl

  pub level_is : machine w64 (c1 ∷ x1 ∷ c2 ∷ x2 ∷ r ∷ []) levelE ≡ c1 *ℤ x1 +ℤ c2 *ℤ x2 +ℤ r
  level_is = exact w64 (c1 ∷ x1 ∷ c2 ∷ x2 ∷ r ∷ []) (2 ^ 21 ∷ 1023 ∷ 2 ^ 21 ∷ 1023 ∷ 2 ^ 21 ∷ []) (h1, (k1, (h2, (k2, (h, tt))))) levelE refl

  pub level_size : unsigned_abs (machine w64 (c1 ∷ x1 ∷ c2 ∷ x2 ∷ r ∷ []) levelE) ≤ 2 ^ 32
  level_size =
      let b : unsigned_abs (c1 *ℤ x1 +ℤ c2 *ℤ x2 +ℤ r) ≤ 4292870144 = value-size (c1 ∷ x1 ∷ c2 ∷ x2 ∷ r ∷ []) (2 ^ 21 ∷ 1023 ∷ 2 ^ 21 ∷ 1023 ∷ 2 ^ 21 ∷ []) levelE (h1, (k1, (h2, (k2, (h, tt))))) in
      let P : ℤ → Type 0 = λ y. unsigned_abs y ≤ 2 ^ 32 in
      subst P (sym level_is) (let s : unsigned_abs (c1 *ℤ x1 +ℤ c2 *ℤ x2 +ℤ r) ≤ 2 ^ 32 = omega arith in s)

-- ---- a number of a sum

abbrev bothE : Expression
bothE = plus (times (var 0) (var 1)) (times (var 2) (var 3))

module _ (q a p b : ℤ) (hq : unsigned_abs q ≤ 2 ^ 21) (ha : unsigned_abs a ≤ 2 ^ 21) (hp : unsigned_abs p ≤ 2 ^ 21) (hb : unsigned_abs b ≤ 2 ^ 21) where
  pub left_fits : FitsSigned w64 (raw w64 (q ∷ a ∷ []) (times (var 0) (var 1)))
  left_fits = fits w64 (q ∷ a ∷ []) (2 ^ 21 ∷ 2 ^ 21 ∷ []) (hq, (ha, tt)) (times (var 0) (var 1)) refl

  pub both_fit : FitsSigned w64 (raw w64 (q ∷ a ∷ p ∷ b ∷ []) bothE)
  both_fit = fits w64 (q ∷ a ∷ p ∷ b ∷ []) (2 ^ 21 ∷ 2 ^ 21 ∷ 2 ^ 21 ∷ 2 ^ 21 ∷ []) (hq, (ha, (hp, (hb, tt)))) bothE refl

  pub both_is : machine w64 (q ∷ a ∷ p ∷ b ∷ []) bothE ≡ q *ℤ a +ℤ p *ℤ b
  both_is = exact w64 (q ∷ a ∷ p ∷ b ∷ []) (2 ^ 21 ∷ 2 ^ 21 ∷ 2 ^ 21 ∷ 2 ^ 21 ∷ []) (hq, (ha, (hp, (hb, tt)))) bothE refl

  pub both_size : unsigned_abs (machine w64 (q ∷ a ∷ p ∷ b ∷ []) bothE) ≤ 2 ^ 44
  both_size =
      let k : unsigned_abs (q *ℤ a +ℤ p *ℤ b) ≤ 2 ^ 43 = value-size (q ∷ a ∷ p ∷ b ∷ []) (2 ^ 21 ∷ 2 ^ 21 ∷ 2 ^ 21 ∷ 2 ^ 21 ∷ []) bothE (hq, (ha, (hp, (hb, tt)))) in
      let P : ℤ → Type 0 = λ y. unsigned_abs y ≤ 2 ^ 44 in subst P (sym both_is) (let s : unsigned_abs (q *ℤ a +ℤ p *ℤ b) ≤ 2 ^ 44 = omega arith in s)

-- ---- the rest of a sum

abbrev weightsE : Expression
weightsE = minus (plus (var 0) (var 1)) (num (pos 1))

abbrev restE : Expression
restE = plus (var 2) weightsE

module _ (q p r : ℤ) (hq : unsigned_abs q ≤ 2 ^ 21) (hp : unsigned_abs p ≤ 2 ^ 21) (hr : unsigned_abs r ≤ 2 ^ 44) where
  pub weights_sum_fits : FitsSigned w64 (raw w64 (q ∷ p ∷ []) (plus (var 0) (var 1)))
  weights_sum_fits = fits w64 (q ∷ p ∷ []) (2 ^ 21 ∷ 2 ^ 21 ∷ []) (hq, (hp, tt)) (plus (var 0) (var 1)) refl

  pub weights_fit : FitsSigned w64 (raw w64 (q ∷ p ∷ []) weightsE)
  weights_fit = fits w64 (q ∷ p ∷ []) (2 ^ 21 ∷ 2 ^ 21 ∷ []) (hq, (hp, tt)) weightsE refl

  pub rest_fits : FitsSigned w64 (raw w64 (q ∷ p ∷ r ∷ []) restE)
  rest_fits = fits w64 (q ∷ p ∷ r ∷ []) (2 ^ 21 ∷ 2 ^ 21 ∷ 2 ^ 44 ∷ []) (hq, (hp, (hr, tt))) restE refl

  pub rest_is : machine w64 (q ∷ p ∷ r ∷ []) restE ≡ r +ℤ (q +ℤ p -ℤ pos 1)
  rest_is = exact w64 (q ∷ p ∷ r ∷ []) (2 ^ 21 ∷ 2 ^ 21 ∷ 2 ^ 44 ∷ []) (hq, (hp, (hr, tt))) restE refl

-- ---- the sum holds

-- a weight times a number that is at least -1
weighted : (q d : ℤ) → pos 1 ≤ℤ q → negsuc 0 ≤ℤ d → (pos 0 -ℤ q) ≤ℤ (q *ℤ d)
weighted (pos n) d h k = let m = product_rises n (negsuc 0) d k in let e = back n in omega (arith, ints)
  where
    back : (j : ℕ) → pos j *ℤ negsuc 0 ≡ pos 0 -ℤ pos j
    back j = ring (pos j ∷ []) (times (var 0) (num (negsuc 0))) (minus (num (pos 0)) (var 0)) refl
weighted (negsuc n) d h k = absurd (omega (arith, ints, h))

sum_least : (q p d e : ℤ) → pos 1 ≤ℤ q → pos 1 ≤ℤ p → negsuc 0 ≤ℤ d → negsuc 0 ≤ℤ e → negsuc 0 ≤ℤ (q *ℤ d +ℤ p *ℤ e +ℤ (q +ℤ p -ℤ pos 1))
sum_least q p d e hq hp hd he = let a = weighted q d hq hd in let b = weighted p e hp he in omega (arith, ints)

abbrev valueE : Expression → Expression → Expression → Expression → Expression → Expression
valueE c1 c2 c3 c4 r = plus (plus (plus (plus (times c1 (var 10)) (times c2 (var 11))) (times c3 (var 12))) (times c4 (var 13))) r

-- the number of a sum at a place in the variables of `sum_value`
abbrev mixE : Expression → Expression → Expression
mixE a b = plus (times (var 14) a) (times (var 15) b)

sum_value : (a1 a2 a3 a4 a b1 b2 b3 b4 b x1 x2 x3 x4 q p : ℤ)
    → (q *ℤ a1 +ℤ p *ℤ b1) *ℤ x1 +ℤ (q *ℤ a2 +ℤ p *ℤ b2) *ℤ x2 +ℤ (q *ℤ a3 +ℤ p *ℤ b3) *ℤ x3 +ℤ (q *ℤ a4 +ℤ p *ℤ b4) *ℤ x4 +ℤ ((q *ℤ a +ℤ p *ℤ b) +ℤ (q +ℤ p -ℤ pos 1))
    ≡ q *ℤ (a1 *ℤ x1 +ℤ a2 *ℤ x2 +ℤ a3 *ℤ x3 +ℤ a4 *ℤ x4 +ℤ a) +ℤ p *ℤ (b1 *ℤ x1 +ℤ b2 *ℤ x2 +ℤ b3 *ℤ x3 +ℤ b4 *ℤ x4 +ℤ b) +ℤ (q +ℤ p -ℤ pos 1)
sum_value a1 a2 a3 a4 a b1 b2 b3 b4 b x1 x2 x3 x4 q p =
    ring (a1 ∷ a2 ∷ a3 ∷ a4 ∷ a ∷ b1 ∷ b2 ∷ b3 ∷ b4 ∷ b ∷ x1 ∷ x2 ∷ x3 ∷ x4 ∷ q ∷ p ∷ [])
    (valueE (mixE (var 0) (var 5)) (mixE (var 1) (var 6)) (mixE (var 2) (var 7)) (mixE (var 3) (var 8)) (plus (mixE (var 4) (var 9)) (minus (plus (var 14) (var 15)) (num (pos 1)))))
    (plus (mixE (valueE (var 0) (var 1) (var 2) (var 3) (var 4)) (valueE (var 5) (var 6) (var 7) (var 8) (var 9))) (minus (plus (var 14) (var 15)) (num (pos 1))))
    refl

-- each number of the inequality is that of the weighted sum
pub record IsMix (q p : ℤ) (m n s : Inequality) : Type 0 where
  pub first : s.c1 ≡ q *ℤ m.c1 +ℤ p *ℤ n.c1
  pub second : s.c2 ≡ q *ℤ m.c2 +ℤ p *ℤ n.c2
  pub third : s.c3 ≡ q *ℤ m.c3 +ℤ p *ℤ n.c3
  pub fourth : s.c4 ≡ q *ℤ m.c4 +ℤ p *ℤ n.c4
  pub rest : s.rest ≡ (q *ℤ m.rest +ℤ p *ℤ n.rest) +ℤ (q +ℤ p -ℤ pos 1)

pub mix_given : (ms : List Vector) (q p : ℤ) (m n s : Inequality) → pos 1 ≤ℤ q → pos 1 ≤ℤ p → IsMix q p m n s → IsShort s → IsGiven ms m → IsGiven ms n → IsGiven ms s
mix_given ms q p m n s hq hp e short a b = record {
  short = short;
  holds = λ x o.
      let P : ℤ → Type 0 = λ y. negsuc 0 ≤ℤ y in
      let w = sum_value m.c1 m.c2 m.c3 m.c4 m.rest n.c1 n.c2 n.c3 n.c4 n.rest x.x1 x.x2 x.x3 x.x4 q p in
      let v : value_at s x ≡ (q *ℤ m.c1 +ℤ p *ℤ n.c1) *ℤ x.x1 +ℤ (q *ℤ m.c2 +ℤ p *ℤ n.c2) *ℤ x.x2 +ℤ (q *ℤ m.c3 +ℤ p *ℤ n.c3) *ℤ x.x3 +ℤ (q *ℤ m.c4 +ℤ p *ℤ n.c4) *ℤ x.x4 +ℤ ((q *ℤ m.rest +ℤ p *ℤ n.rest) +ℤ (q +ℤ p -ℤ pos 1)) =
      (λ i. e.first i *ℤ x.x1 +ℤ e.second i *ℤ x.x2 +ℤ e.third i *ℤ x.x3 +ℤ e.fourth i *ℤ x.x4 +ℤ e.rest i) in
      subst P (sym (v ∙ w)) (sum_least q p (value_at m x) (value_at n x) hq hp (a.holds x o) (b.holds x o));
}

-- ---- the inequality of a dual vertex

pub vertex_given : (ms : List Vector) (m : Vector) (s : Inequality) → s.c1 ≡ m.x1 → s.c2 ≡ m.x2 → s.c3 ≡ m.x3 → s.c4 ≡ m.x4 → s.rest ≡ pos 0 → IsSmall m → Contains ms m → IsGiven ms s
vertex_given ms m s e1 e2 e3 e4 e h k =
    let P : Inequality → Type 0 = IsGiven ms in
    let q : s ≡ record { c1 = m.x1; c2 = m.x2; c3 = m.x3; c4 = m.x4; rest = pos 0; vertices = s.vertices } = (λ i. record { c1 = e1 i; c2 = e2 i; c3 = e3 i; c4 = e4 i; rest = e i; vertices = s.vertices }) in
    subst P (sym q) (record {
      short = (wide m.x1 (small_size m.x1 h.low1 h.high1), (wide m.x2 (small_size m.x2 h.low2 h.high2), (wide m.x3 (small_size m.x3 h.low3 h.high3), (wide m.x4 (small_size m.x4 h.low4 h.high4), (omega arith, tt)))));
      holds = λ x o. (let d = All-contains (λ v. negsuc 0 ≤ℤ dot v x) ms m o k in plus_none (m.x1 *ℤ x.x1 +ℤ m.x2 *ℤ x.x2 +ℤ m.x3 *ℤ x.x3 +ℤ m.x4 *ℤ x.x4) d);
    })
  where
    wide : (z : ℤ) → unsigned_abs z ≤ 1023 → unsigned_abs z ≤ 2 ^ 21
    wide z l = omega arith

    plus_none : (z : ℤ) → negsuc 0 ≤ℤ z → negsuc 0 ≤ℤ (z +ℤ pos 0)
    plus_none z l = omega (arith, ints)

-- ---- lists of inequalities

pub short_all : (ms : List Vector) (ss : List Inequality) → All (IsGiven ms) ss → All IsShort ss
short_all ms ss h = λ i d l. (h i d l).short

pub given_all : (ms : List Vector) (k : Cancelled) (ss : List Inequality) → All (IsSum ms k) ss → All (IsGiven ms) ss
given_all ms k ss h = λ i d l. (h i d l).0

pub size_of : (x y : ℤ) → x ≡ y → unsigned_abs x ≤ 1023 → unsigned_abs y ≤ 1023
size_of x y e h = let P : ℤ → Type 0 = λ z. unsigned_abs z ≤ 1023 in subst P e h

pub short_of : (x y : ℤ) → x ≡ y → unsigned_abs x ≤ 2 ^ 21 → unsigned_abs y ≤ 2 ^ 21
short_of x y e h = let P : ℤ → Type 0 = λ z. unsigned_abs z ≤ 2 ^ 21 in subst P e h

pub least_of : (x y : ℤ) → x ≡ y → pos 1 ≤ℤ x → pos 1 ≤ℤ y
least_of x y e h = let P : ℤ → Type 0 = λ z. pos 1 ≤ℤ z in subst P e h

-- ---- what the sums leave of an extent

-- of each place with S that no dual vertex shuts out, the coordinate c is kept
pub record IsNarrowed (sums : Sums) (S : Vector → Type 0) (c : Vector → ℤ) (extent left : Extent) : Type 0 where
  pub inside : (ms : List Vector) (x : Vector) → AreSums ms sums → IsOpen ms x → S x → IsWithin extent (c x) → IsWithin left (c x)
  pub within : (z : ℤ) → IsWithin left z → IsWithin extent z
  pub size : AreWithin (2 ^ 33) (left.low ∷ left.high ∷ [])

module _ (sums : Sums) (S : Vector → Type 0) (c : Vector → ℤ) (extent : Extent) where
  pub narrowed_first : AreWithin (2 ^ 33) (extent.low ∷ extent.high ∷ []) → IsNarrowed sums S c extent extent
  narrowed_first s = record { inside = λ ms x all o e w. w; within = λ z w. w; size = s }

  pub narrowed_more : (left next : Extent) (level slope : ℤ) → ((ms : List Vector) (x : Vector) → AreSums ms sums → IsOpen ms x → S x → negsuc 0 ≤ℤ (level +ℤ slope *ℤ c x))
      → ((z : ℤ) → IsWithin next z ↔ (IsWithin left z × (negsuc 0 ≤ℤ (level +ℤ slope *ℤ z)))) → AreWithin (2 ^ 33) (next.low ∷ next.high ∷ []) → IsNarrowed sums S c extent left
      → IsNarrowed sums S c extent next
  narrowed_more left next level slope holds cut size n = record {
    inside = λ ms x all o e w. (cut (c x)).1 (n.inside ms x all o e w, holds ms x all o e);
    within = λ z w. n.within z ((cut z).0 w).0;
    size = size;
  }

-- no more numbers than the extent around it
pub narrowed_span : (e b : Extent) → ((z : ℤ) → IsWithin e z → IsWithin b z) → IsSmallExtent b → e.low ≤ℤ e.high → (e.high -ℤ e.low) ≤ℤ pos 2046
narrowed_span e b within s h =
    let l = (within e.low (record { low = ≤ℤ_refl e.low; high = h })).low in
    let k = (within e.high (record { low = h; high = ≤ℤ_refl e.high })).high in
    let p = s.low in let q = s.high in
    omega (arith, ints)

-- a place of the polytope lies within the box
module _ (p : VertexLists) (b : Bounds) (x : Vector) (are : AreBoundsOf p.vertices b) (k : IsInside p x) where
  pub second_within : IsWithin b.x2 x.x2
  second_within = record {
    low = extent_low (λ v. v.x2) p.vertices b.x2 x.x2 are.second k.box.low2;
    high = extent_high (λ v. v.x2) p.vertices b.x2 x.x2 are.second k.box.high2;
  }

  pub third_within : IsWithin b.x3 x.x3
  third_within = record {
    low = extent_low (λ v. v.x3) p.vertices b.x3 x.x3 are.third k.box.low3;
    high = extent_high (λ v. v.x3) p.vertices b.x3 x.x3 are.third k.box.high3;
  }

-- an inequality in the first two coordinates bounds the second
pub second_holds : (ms : List Vector) (s : Inequality) (x : Vector) (x1 level : ℤ) → IsGiven ms s → s.c3 ≡ pos 0 → s.c4 ≡ pos 0 → level ≡ s.c1 *ℤ x1 +ℤ s.c2 *ℤ pos 0 +ℤ s.rest → IsOpen ms x → x.x1 ≡ x1
    → negsuc 0 ≤ℤ (level +ℤ s.c2 *ℤ x.x2)
second_holds ms s x x1 level g e3 e4 e o f =
    let h = g.holds x o in
    let n3 = ap (λ y. y *ℤ x.x3) e3 ∙ zero_product x.x3 in
    let n4 = ap (λ y. y *ℤ x.x4) e4 ∙ zero_product x.x4 in
    let n2 = product_zero s.c2 in
    let n1 = ap (λ y. s.c1 *ℤ y) f in
    omega (arith, ints)

-- one in the first three bounds the third
pub third_holds : (ms : List Vector) (s : Inequality) (x : Vector) (x1 x2 level : ℤ) → IsGiven ms s → s.c4 ≡ pos 0 → level ≡ s.c1 *ℤ x1 +ℤ s.c2 *ℤ x2 +ℤ s.rest → IsOpen ms x → x.x1 ≡ x1 → x.x2 ≡ x2
    → negsuc 0 ≤ℤ (level +ℤ s.c3 *ℤ x.x3)
third_holds ms s x x1 x2 level g e4 e o f1 f2 =
    let h = g.holds x o in
    let n4 = ap (λ y. y *ℤ x.x4) e4 ∙ zero_product x.x4 in
    let n1 = ap (λ y. s.c1 *ℤ y) f1 in
    let n2 = ap (λ y. s.c2 *ℤ y) f2 in
    omega (arith, ints)

-- and the second, where the first and the third are known
pub row_holds : (ms : List Vector) (s : Inequality) (x : Vector) (x1 x3 level : ℤ) → IsGiven ms s → s.c4 ≡ pos 0 → level ≡ s.c1 *ℤ x1 +ℤ s.c3 *ℤ x3 +ℤ s.rest → IsOpen ms x → x.x1 ≡ x1 → x.x3 ≡ x3
    → negsuc 0 ≤ℤ (level +ℤ s.c2 *ℤ x.x2)
row_holds ms s x x1 x3 level g e4 e o f1 f3 =
    let h = g.holds x o in
    let n4 = ap (λ y. y *ℤ x.x4) e4 ∙ zero_product x.x4 in
    let n1 = ap (λ y. s.c1 *ℤ y) f1 in
    let n3 = ap (λ y. s.c3 *ℤ y) f3 in
    omega (arith, ints)

module _ (sums : Sums) (ss : List Inequality) (s : Inequality) where
  pub second_short : ss ≡ sums.two.items → Contains ss s → ((ms : List Vector) × AreSums ms sums) → IsShort s
  second_short q k (ms, all) = let P : List Inequality → Type 0 = λ xs. Contains xs s in (All-contains (IsSum ms Third) sums.two.items s all.two (subst P q k)).0.short

  pub third_short : ss ≡ sums.three.items → Contains ss s → ((ms : List Vector) × AreSums ms sums) → IsShort s
  third_short q k (ms, all) = let P : List Inequality → Type 0 = λ xs. Contains xs s in (All-contains (IsSum ms Fourth) sums.three.items s all.three (subst P q k)).0.short

  pub second_more : (x1 level : ℤ) (extent left next : Extent) → ss ≡ sums.two.items → Contains ss s → level ≡ s.c1 *ℤ x1 +ℤ s.c2 *ℤ pos 0 +ℤ s.rest
      → ((z : ℤ) → IsWithin next z ↔ (IsWithin left z × (negsuc 0 ≤ℤ (level +ℤ s.c2 *ℤ z)))) → AreWithin (2 ^ 33) (next.low ∷ next.high ∷ [])
      → IsNarrowed sums (IsOnPlane x1) (λ v. v.x2) extent left → IsNarrowed sums (IsOnPlane x1) (λ v. v.x2) extent next
  second_more x1 level extent left next q k e cut size n =
      let P : List Inequality → Type 0 = λ xs. Contains xs s in
      narrowed_more sums (IsOnPlane x1) (λ v. v.x2) extent left next level s.c2
      (λ ms x all o f. (let g = All-contains (IsSum ms Third) sums.two.items s all.two (subst P q k) in second_holds ms s x x1 level g.0 g.1.0 g.1.1 e o f)) cut size n

  pub third_more : (x1 x2 level : ℤ) (extent left next : Extent) → ss ≡ sums.three.items → Contains ss s → level ≡ s.c1 *ℤ x1 +ℤ s.c2 *ℤ x2 +ℤ s.rest
      → ((z : ℤ) → IsWithin next z ↔ (IsWithin left z × (negsuc 0 ≤ℤ (level +ℤ s.c3 *ℤ z)))) → AreWithin (2 ^ 33) (next.low ∷ next.high ∷ [])
      → IsNarrowed sums (IsOnLine x1 x2) (λ v. v.x3) extent left → IsNarrowed sums (IsOnLine x1 x2) (λ v. v.x3) extent next
  third_more x1 x2 level extent left next q k e cut size n =
      let P : List Inequality → Type 0 = λ xs. Contains xs s in
      narrowed_more sums (IsOnLine x1 x2) (λ v. v.x3) extent left next level s.c3
      (λ ms x all o f. (let g = All-contains (IsSum ms Fourth) sums.three.items s all.three (subst P q k) in third_holds ms s x x1 x2 level g.0 g.1 e o f.0 f.1)) cut size n

  pub row_more : (x1 x3 level : ℤ) (extent left next : Extent) → ss ≡ sums.three.items → Contains ss s → level ≡ s.c1 *ℤ x1 +ℤ s.c3 *ℤ x3 +ℤ s.rest
      → ((z : ℤ) → IsWithin next z ↔ (IsWithin left z × (negsuc 0 ≤ℤ (level +ℤ s.c2 *ℤ z)))) → AreWithin (2 ^ 33) (next.low ∷ next.high ∷ [])
      → IsNarrowed sums (IsOnRow x1 x3) (λ v. v.x2) extent left → IsNarrowed sums (IsOnRow x1 x3) (λ v. v.x2) extent next
  row_more x1 x3 level extent left next q k e cut size n =
      let P : List Inequality → Type 0 = λ xs. Contains xs s in
      narrowed_more sums (IsOnRow x1 x3) (λ v. v.x2) extent left next level s.c2
      (λ ms x all o f. (let g = All-contains (IsSum ms Fourth) sums.three.items s all.three (subst P q k) in row_holds ms s x x1 x3 level g.0 g.1 e o f.0 f.1)) cut size n

pub level_back : (z : ℤ) → unsigned_abs z ≤ 2 ^ 32 → to_z w64 (of_z w64 z) ≡ z
level_back z h = short_back z (let k : unsigned_abs z ≤ 2 ^ 34 = omega arith in k)

pub slope_back : (z : ℤ) → unsigned_abs z ≤ 2 ^ 21 → to_z w64 (of_z w64 z) ≡ z
slope_back z h = short_back z (let k : unsigned_abs z ≤ 2 ^ 34 = omega arith in k)

pub mixed_back : (z : ℤ) → unsigned_abs z ≤ 2 ^ 44 → to_z w64 (of_z w64 z) ≡ z
mixed_back z h = back w64 z (2 ^ 44) h (omega arith)

-- a short number is short as it is kept
pub kept_size : (z : ℤ) → unsigned_abs z ≤ 2 ^ 21 → unsigned_abs (to_z w64 (of_z w64 z)) ≤ 2 ^ 21
kept_size z h = let P : ℤ → Type 0 = λ y. unsigned_abs y ≤ 2 ^ 21 in subst P (sym (slope_back z h)) h

pub coordinate_is : (m : Vector) (cs : List ℤ) (k : ℕ) → cs ≡ numbers m → IsSmall m → to_z w64 (of_z w64 (get_or cs k (pos 0))) ≡ get_or (numbers m) k (pos 0)
coordinate_is m cs k e s = short_back (get_or cs k (pos 0)) (let p = AreWithin-four 1023 cs (small_coordinates m cs s e) k in omega arith) ∙ ap (λ ns. get_or ns k (pos 0)) e
