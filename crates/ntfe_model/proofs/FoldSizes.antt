-- The factors of a fold are small: they are quotients of differences of small coordinates.
--     factor_size, factor_product      a factor of a difference of coordinates is no larger than that
--     fold_small      the factors of a fold of an item whose points have small places
use Rattle.std.proofs.Common.{◌≡◌, ◌≢◌, ℕ, zero, suc, ◌*◌, ◌<◌, ◌≤◌, ◌⊎◌, inl, inr, refl, sym, ap, ◌∙◌, arith, ℤ, pos, ◌+ℤ◌, ◌-ℤ◌, ◌*ℤ◌, [], ◌∷◌, unsigned_abs}
use Rattle.std.specs.Prelude.{Contains}
use Rattle.std.proofs.lemmas.Int.{ints, unsigned_abs-mul}
use Rattle.ntfe_nums.specs.Vectors.{Vector, vector_sum, multiple}
use Rattle.ntfe_nums.proofs.Ring.{ring}
use Rattle.ntfe_nums.proofs.Ring.Expression.{var, num, plus, minus, times}
use Rattle.ntfe_model.specs.Pairs.{IsSmall}
use Rattle.ntfe_model.specs.Charts.{Patch, axes, place, IsOf, IsUnit}
use Rattle.ntfe_model.specs.Choices.{AreOpposite, IsFoldOf}
use Rattle.ntfe_model.specs.declared.triangle.Triangle.{Triangle}
use Rattle.ntfe_model.specs.declared.triangulation.Triangulation.{Triangulation}
use Rattle.ntfe_model.specs.declared.nogood.Fold.{Fold}
use Rattle.ntfe_model.proofs.SmallVectors.{IsSmallNumber, small_size}
use Rattle.ntfe_model.proofs.Triples.{positive_apart}
use Rattle.ntfe_model.proofs.Folds.{unit_corner}

-- ---- factors

pub size_above : (d : ℤ) → d ≢ pos 0 → 0 < unsigned_abs d
size_above d h = from (unsigned_abs d) (λ e. h (zero_size d e))
  where
    zero_size : (z : ℤ) → unsigned_abs z ≡ 0 → z ≡ pos 0
    zero_size z e = omega (arith, ints, e)

    from : (n : ℕ) → n ≢ 0 → 0 < n
    from zero q = absurd (q refl)
    from (suc n) q = omega arith

-- a factor of a product is no larger than the product, unless the other is 0
pub factor_size : (n d m : ℤ) → d ≢ pos 0 → m ≡ n *ℤ d → unsigned_abs n ≤ unsigned_abs m
factor_size n d m h e = from (unsigned_abs n) (unsigned_abs d) (unsigned_abs m) (size_above d h) (ap unsigned_abs e ∙ unsigned_abs-mul n d)
  where
    from : (i j k : ℕ) → 0 < j → k ≡ i * j → i ≤ k
    from i zero k l q = absurd (omega (arith, l))
    from i (suc j) k l q = let z : 0 ≤ i * j = omega arith in omega (arith, q, z)

-- c - a + (d - a) is n times b - a
pub factor_product : (a b c d n : ℤ) → c +ℤ d ≡ (pos 2 -ℤ n) *ℤ a +ℤ n *ℤ b → c -ℤ a +ℤ (d -ℤ a) ≡ n *ℤ (b -ℤ a)
factor_product a b c d n e =
    first a c d ∙ ap (λ z. z -ℤ (a +ℤ a)) e
    ∙ ring (a ∷ b ∷ n ∷ []) (minus (plus (times (minus (num (pos 2)) (var 2)) (var 0)) (times (var 2) (var 1))) (plus (var 0) (var 0))) (times (var 2) (minus (var 1) (var 0))) refl
  where
    first : (a c d : ℤ) → c -ℤ a +ℤ (d -ℤ a) ≡ c +ℤ d -ℤ (a +ℤ a)
    first a c d = omega (arith, ints)

pub no_gap : (a b : ℤ) → a ≢ b → b -ℤ a ≢ pos 0
no_gap a b h e = h (same a b e)
  where
    same : (x y : ℤ) → y -ℤ x ≡ pos 0 → x ≡ y
    same x y g = omega (arith, ints, g)

-- ---- the factors of a fold

-- a large factor leaves no difference in the coordinate
none_apart : (a b c d n : ℤ) → IsSmallNumber a → IsSmallNumber c → IsSmallNumber d → c +ℤ d ≡ (pos 2 -ℤ n) *ℤ a +ℤ n *ℤ b → 4092 < unsigned_abs n → a ≡ b
none_apart a b c d n sa sc sd e l = by (unsigned_abs (b -ℤ a)) refl
  where
    top : (x y z : ℤ) → unsigned_abs x ≤ 1023 → unsigned_abs y ≤ 1023 → unsigned_abs z ≤ 1023 → unsigned_abs (y -ℤ x +ℤ (z -ℤ x)) ≤ 4092
    top x y z p q r = omega (arith, ints, p, q, r)

    same : (x y : ℤ) → unsigned_abs (y -ℤ x) ≡ 0 → x ≡ y
    same x y g = omega (arith, ints, g)

    by : (k : ℕ) → unsigned_abs (b -ℤ a) ≡ k → a ≡ b
    by zero g = same a b g
    by (suc k) g =
        let p : b -ℤ a ≢ pos 0 = (λ z. let q : suc k ≡ 0 = sym g ∙ ap unsigned_abs z in absurd (omega (arith, q))) in
        let f = factor_size n (b -ℤ a) (c -ℤ a +ℤ (d -ℤ a)) p (factor_product a b c d n e) in
        let t = top a c d (small_size a sa.0 sa.1) (small_size c sc.0 sc.1) (small_size d sd.0 sd.1) in
        absurd (omega (arith, f, t, l))

-- of points that lie apart
pub balance_small : (a b c d : Vector) (m n : ℤ) → IsSmall a → IsSmall c → IsSmall d → a ≢ b → vector_sum c d ≡ vector_sum (multiple m a) (multiple n b) → m +ℤ n ≡ pos 2
    → (unsigned_abs m ≤ 4094) × (unsigned_abs n ≤ 4094)
balance_small a b c d m n sa sc sd apart e two =
    by (let r : (unsigned_abs n ≤ 4092) ⊎ (4092 < unsigned_abs n) = grind arith in r)
  where
    less : (x y : ℤ) → x +ℤ y ≡ pos 2 → x ≡ pos 2 -ℤ y
    less x y g = omega (arith, ints, g)

    first : (x y : ℤ) → x +ℤ y ≡ pos 2 → unsigned_abs y ≤ 4092 → (unsigned_abs x ≤ 4094) × (unsigned_abs y ≤ 4094)
    first x y g l = (omega (arith, ints, g, l), omega (arith, l))

    none : (x y v w : ℤ) → IsSmallNumber x → IsSmallNumber v → IsSmallNumber w → v +ℤ w ≡ m *ℤ x +ℤ n *ℤ y → 4092 < unsigned_abs n → x ≡ y
    none x y v w i j k g l = none_apart x y v w n i j k (g ∙ ap (λ z. z *ℤ x +ℤ n *ℤ y) (less m n two)) l

    by : (unsigned_abs n ≤ 4092) ⊎ (4092 < unsigned_abs n) → (unsigned_abs m ≤ 4094) × (unsigned_abs n ≤ 4094)
    by (inl l) = first m n two l
    by (inr l) =
        let e1 = none a.x1 b.x1 c.x1 d.x1 (sa.low1, sa.high1) (sc.low1, sc.high1) (sd.low1, sd.high1) (ap (λ v. v.x1) e) l in
        let e2 = none a.x2 b.x2 c.x2 d.x2 (sa.low2, sa.high2) (sc.low2, sc.high2) (sd.low2, sd.high2) (ap (λ v. v.x2) e) l in
        let e3 = none a.x3 b.x3 c.x3 d.x3 (sa.low3, sa.high3) (sc.low3, sc.high3) (sd.low3, sd.high3) (ap (λ v. v.x3) e) l in
        let e4 = none a.x4 b.x4 c.x4 d.x4 (sa.low4, sa.high4) (sc.low4, sc.high4) (sd.low4, sd.high4) (ap (λ v. v.x4) e) l in
        absurd (apart (λ t. record { x1 = e1 t; x2 = e2 t; x3 = e3 t; x4 = e4 t }))

pub fold_small : (h : Patch) (x : Triangulation) (r : Fold) → ((t : Triangle) → Contains x.triangles t → IsUnit h t.a t.b t.c) → ((a : ℕ) → IsOf h a → IsSmall (place h a))
    → IsFoldOf h x r → (unsigned_abs r.alpha ≤ 4094) × (unsigned_abs r.beta ≤ 4094)
fold_small h x r units small f = by f.opposite
  where
    by : AreOpposite x.triangles r.a r.b r.c r.d ⊎ AreOpposite x.triangles r.a r.b r.d r.c → (unsigned_abs r.alpha ≤ 4094) × (unsigned_abs r.beta ≤ 4094)
    by (inl o) =
        let u = unit_corner h o.0 r.a r.b r.c (units o.0 o.2) o.4 in
        let v = unit_corner h o.1 r.b r.a r.d (units o.1 o.3) o.5 in
        balance_small (place h r.a) (place h r.b) (place h r.c) (place h r.d) r.alpha r.beta (small r.a u.points.0) (small r.c u.points.2) (small r.d v.points.2)
        (positive_apart (axes h) (place h r.a) (place h r.b) (place h r.c) u.left) f.balance f.two
    by (inr o) =
        let u = unit_corner h o.0 r.a r.b r.d (units o.0 o.2) o.4 in
        let v = unit_corner h o.1 r.b r.a r.c (units o.1 o.3) o.5 in
        balance_small (place h r.a) (place h r.b) (place h r.c) (place h r.d) r.alpha r.beta (small r.a u.points.0) (small r.c v.points.2) (small r.d u.points.2)
        (positive_apart (axes h) (place h r.a) (place h r.b) (place h r.d) u.left) f.balance f.two
