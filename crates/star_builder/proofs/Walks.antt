-- Low simplices against another that is the target of a walk: the sum of the target's points tells how far the walk has come.
--     no_lower      across a ridge that parts the simplex from the target, the next is nearer
--     none_apart      a simplex that no ridge parts from the target is the target
use Rattle.std.proofs.Common.{◌≡◌, ◌≢◌, ℕ, ◌+◌, ◌⊎◌, inl, inr, ⊎_elim, refl, sym, ap, ◌∙◌, subst, arith, ℤ, pos, ◌+ℤ◌, ◌-ℤ◌, ◌*ℤ◌, ◌<ℤ◌, ◌≤ℤ◌, neg_ℤ, [], ◌∷◌, List}
use Rattle.std.proofs.lemmas.Int.{ints}
use Rattle.ntfe_nums.specs.Vectors.{Vector, dot}
use Rattle.ntfe_nums.proofs.Exchanges.{cramer_form, same_first, same_second, same_third}
use Rattle.ntfe_nums.proofs.Ring.{ring}
use Rattle.ntfe_nums.proofs.Ring.Expression.{var, num, plus, minus, times, neg}
use Rattle.ntfe_nums.proofs.Signs.{not_negative, product_not_negative, positive_product, same_or, square_not_negative, square_positive, zero_out, negative_turned, sign_of, zero_between, zero_not_negative, positive_some}
use Rattle.ntfe_model.specs.Lists.{IsNumberOf}
use Rattle.ntfe_model.specs.Points.{place_of_point}
use Rattle.ntfe_model.specs.Reflexive.{IsTight}
use Rattle.ntfe_model.specs.declared.point.Point.{Point}
use Rattle.ntfe_model.proofs.PlaneNumbers.{negative_product}
use Rattle.star_builder.proofs.LowSimplices.{IsLow}
use Rattle.star_builder.proofs.Rises.{gap, gap_fourth, rise, rise_exchange, rise_first, rise_fourth, rise_gap, rise_second, rise_third, through, volume}

-- ---- numbers

-- how much nearer the next simplex is
nearer : (V W k x1 x2 x3 x4 r1 r2 r3 r4 s1 s2 s3 s4 : ℤ)
    → V *ℤ s1 ≡ x1 *ℤ neg_ℤ k +ℤ W *ℤ r1 → V *ℤ s2 ≡ x2 *ℤ neg_ℤ k +ℤ W *ℤ r2 → V *ℤ s3 ≡ x3 *ℤ neg_ℤ k +ℤ W *ℤ r3 → V *ℤ s4 ≡ x4 *ℤ neg_ℤ k +ℤ W *ℤ r4
    → (V *ℤ V) *ℤ (W *ℤ s1 +ℤ W *ℤ s2 +ℤ W *ℤ s3 +ℤ W *ℤ s4) -ℤ (V *ℤ r1 +ℤ V *ℤ r2 +ℤ V *ℤ r3 +ℤ V *ℤ r4) *ℤ (W *ℤ W) ≡ neg_ℤ ((V *ℤ W) *ℤ (k *ℤ (x1 +ℤ x2 +ℤ x3 +ℤ x4)))
nearer V W k x1 x2 x3 x4 r1 r2 r3 r4 s1 s2 s3 s4 e1 e2 e3 e4 =
    (let t = λ (i j : ℕ). times (var i) (var j) in
    let sum = λ (k i : ℕ). plus (plus (plus (t k i) (t k (i + 1))) (t k (i + 2))) (t k (i + 3)) in
    ring (V ∷ W ∷ r1 ∷ r2 ∷ r3 ∷ r4 ∷ s1 ∷ s2 ∷ s3 ∷ s4 ∷ [])
    (minus (times (t 0 0) (sum 1 6)) (times (sum 0 2) (t 1 1)))
    (times (t 0 1) (minus (sum 0 6) (sum 1 2))) refl)
    ∙ (λ i. (V *ℤ W) *ℤ ((e1 i +ℤ e2 i +ℤ e3 i +ℤ e4 i) -ℤ (W *ℤ r1 +ℤ W *ℤ r2 +ℤ W *ℤ r3 +ℤ W *ℤ r4)))
    ∙ (let t = λ (i j : ℕ). times (var i) (var j) in
    let sum = λ (k i : ℕ). plus (plus (plus (t k i) (t k (i + 1))) (t k (i + 2))) (t k (i + 3)) in
    let u = λ (i : ℕ). plus (times (var (i + 4)) (neg (var 10))) (times (var 1) (var i)) in
    ring (V ∷ W ∷ r1 ∷ r2 ∷ r3 ∷ r4 ∷ x1 ∷ x2 ∷ x3 ∷ x4 ∷ k ∷ [])
    (times (t 0 1) (minus (plus (plus (plus (u 2) (u 3)) (u 4)) (u 5)) (sum 1 2)))
    (neg (times (t 0 1) (times (var 10) (plus (plus (plus (var 6) (var 7)) (var 8)) (var 9))))) refl)

-- two numbers below 0
both_negative : (x y : ℤ) → x <ℤ pos 0 → y <ℤ pos 0 → pos 0 <ℤ (x *ℤ y)
both_negative x y l k = subst (λ z. pos 0 <ℤ z) (ring (x ∷ y ∷ []) (times (neg (var 0)) (neg (var 1))) (times (var 0) (var 1)) refl) (positive_product (neg_ℤ x) (neg_ℤ y) (negative_turned x l) (negative_turned y k))

no_nearer : (V W k X : ℤ) → (V *ℤ W) <ℤ pos 0 → pos 0 <ℤ (V *ℤ k) → (V *ℤ X) <ℤ pos 0 → (z : ℤ) → pos 0 ≤ℤ z → z ≡ neg_ℤ ((V *ℤ W) *ℤ (k *ℤ X)) → ⊥
no_nearer V W k X l p n z o e =
    clash ((V *ℤ V) *ℤ z) ((V *ℤ W) *ℤ ((V *ℤ X) *ℤ (V *ℤ k))) (product_not_negative (V *ℤ V) z (square_not_negative V) o)
    (both_negative (V *ℤ W) ((V *ℤ X) *ℤ (V *ℤ k)) l (negative_product (V *ℤ X) (V *ℤ k) n p))
    (ap (λ y. (V *ℤ V) *ℤ y) e ∙ ring (V ∷ W ∷ k ∷ X ∷ []) (times (times (var 0) (var 0)) (neg (times (times (var 0) (var 1)) (times (var 2) (var 3))))) (neg (times (times (var 0) (var 1)) (times (times (var 0) (var 3)) (times (var 0) (var 2))))) refl)
  where
    clash : (x y : ℤ) → pos 0 ≤ℤ x → pos 0 <ℤ y → x ≡ neg_ℤ y → ⊥
    clash x y l k e = absurd (omega (arith, ints, l, k, e))

-- the target's form at the sum of its points, by the combination of a simplex
balanced : (V W A B C D r1 r2 r3 r4 : ℤ) (f1 f2 f3 f4 g1 g2 g3 g4 h1 h2 h3 h4 k1 k2 k3 k4 : ℤ)
    → pos 0 ≡ f1 *ℤ A +ℤ g1 *ℤ B +ℤ h1 *ℤ C +ℤ k1 *ℤ D +ℤ W *ℤ r1 → pos 0 ≡ f2 *ℤ A +ℤ g2 *ℤ B +ℤ h2 *ℤ C +ℤ k2 *ℤ D +ℤ W *ℤ r2
    → pos 0 ≡ f3 *ℤ A +ℤ g3 *ℤ B +ℤ h3 *ℤ C +ℤ k3 *ℤ D +ℤ W *ℤ r3 → pos 0 ≡ f4 *ℤ A +ℤ g4 *ℤ B +ℤ h4 *ℤ C +ℤ k4 *ℤ D +ℤ W *ℤ r4
    → (V *ℤ f1 +ℤ V *ℤ f2 +ℤ V *ℤ f3 +ℤ V *ℤ f4) *ℤ (W *ℤ A) +ℤ (V *ℤ g1 +ℤ V *ℤ g2 +ℤ V *ℤ g3 +ℤ V *ℤ g4) *ℤ (W *ℤ B)
    +ℤ (V *ℤ h1 +ℤ V *ℤ h2 +ℤ V *ℤ h3 +ℤ V *ℤ h4) *ℤ (W *ℤ C) +ℤ (V *ℤ k1 +ℤ V *ℤ k2 +ℤ V *ℤ k3 +ℤ V *ℤ k4) *ℤ (W *ℤ D)
    +ℤ (W *ℤ W) *ℤ (V *ℤ r1 +ℤ V *ℤ r2 +ℤ V *ℤ r3 +ℤ V *ℤ r4) ≡ pos 0
balanced V W A B C D r1 r2 r3 r4 f1 f2 f3 f4 g1 g2 g3 g4 h1 h2 h3 h4 k1 k2 k3 k4 e1 e2 e3 e4 =
    (let t = λ (i j : ℕ). times (var i) (var j) in
    let sum = λ (i : ℕ). plus (plus (plus (t 0 i) (t 0 (i + 1))) (t 0 (i + 2))) (t 0 (i + 3)) in
    let row = λ (i : ℕ). plus (plus (plus (plus (t (i + 10) 2) (t (i + 14) 3)) (t (i + 18) 4)) (t (i + 22) 5)) (t 1 (i + 6)) in
    ring (V ∷ W ∷ A ∷ B ∷ C ∷ D ∷ r1 ∷ r2 ∷ r3 ∷ r4 ∷ f1 ∷ f2 ∷ f3 ∷ f4 ∷ g1 ∷ g2 ∷ g3 ∷ g4 ∷ h1 ∷ h2 ∷ h3 ∷ h4 ∷ k1 ∷ k2 ∷ k3 ∷ k4 ∷ [])
    (plus (plus (plus (plus (times (sum 10) (t 1 2)) (times (sum 14) (t 1 3))) (times (sum 18) (t 1 4))) (times (sum 22) (t 1 5))) (times (t 1 1) (sum 6)))
    (times (t 0 1) (plus (plus (plus (row 0) (row 1)) (row 2)) (row 3))) refl)
    ∙ (λ i. (V *ℤ W) *ℤ (sym e1 i +ℤ sym e2 i +ℤ sym e3 i +ℤ sym e4 i))
    ∙ ring (V ∷ W ∷ []) (times (times (var 0) (var 1)) (plus (plus (plus (num (pos 0)) (num (pos 0))) (num (pos 0))) (num (pos 0)))) (num (pos 0)) refl

last_zero : (x1 x2 x3 x4 w r : ℤ) → pos 0 ≤ℤ x1 → pos 0 ≤ℤ x2 → pos 0 ≤ℤ x3 → pos 0 ≤ℤ x4 → pos 0 <ℤ w → pos 0 ≤ℤ r → x1 +ℤ x2 +ℤ x3 +ℤ x4 +ℤ w *ℤ r ≡ pos 0 → r ≡ pos 0
last_zero x1 x2 x3 x4 w r l1 l2 l3 l4 p o e = ⊎_elim (λ k. absurd (clash (w *ℤ r) (positive_product w r p k) e)) (λ k. zero_between r o k) (sign_of r)
  where
    clash : (y : ℤ) → pos 0 <ℤ y → x1 +ℤ x2 +ℤ x3 +ℤ x4 +ℤ y ≡ pos 0 → ⊥
    clash y k e = absurd (omega (arith, ints, l1, l2, l3, l4, k, e))

pub four_not_negative : (x y z u : ℤ) → pos 0 ≤ℤ x → pos 0 ≤ℤ y → pos 0 ≤ℤ z → pos 0 ≤ℤ u → pos 0 ≤ℤ (x +ℤ y +ℤ z +ℤ u)
four_not_negative x y z u k l m n = omega (arith, ints, k, l, m, n)

four_zero : (x y z u : ℤ) → pos 0 ≤ℤ x → pos 0 ≤ℤ y → pos 0 ≤ℤ z → pos 0 ≤ℤ u → x +ℤ y +ℤ z +ℤ u ≡ pos 0 → (x ≡ pos 0) × (y ≡ pos 0) × (z ≡ pos 0) × (u ≡ pos 0)
four_zero x y z u k l m n e = (omega (arith, ints, k, l, m, n, e), omega (arith, ints, k, l, m, n, e), omega (arith, ints, k, l, m, n, e), omega (arith, ints, k, l, m, n, e))

-- ---- a gap by its values at four things

module _ {A : Type 0} (place : A → Vector) (height : A → ℤ) where
  gap_mixed : (s : ℤ) (n : Vector) (a b c d x : A) → volume place height a b c d *ℤ gap place height s n x
      ≡ volume place height x b c d *ℤ gap place height s n a +ℤ volume place height a x c d *ℤ gap place height s n b +ℤ volume place height a b x d *ℤ gap place height s n c
      +ℤ volume place height a b c x *ℤ gap place height s n d +ℤ s *ℤ rise place height a b c d x
  gap_mixed s n a b c d x =
      by (volume place height a b c d) (volume place height x b c d) (volume place height a x c d) (volume place height a b x d) (volume place height a b c x) (height x) (height a) (height b) (height c) (height d)
      (dot n (place x)) (dot n (place a)) (dot n (place b)) (dot n (place c)) (dot n (place d)) (cramer_form n (place a) (place b) (place c) (place d) (place x))
    where
      by : (size l1 l2 l3 l4 h h1 h2 h3 h4 f f1 f2 f3 f4 : ℤ) → size *ℤ f ≡ l1 *ℤ f1 +ℤ l2 *ℤ f2 +ℤ l3 *ℤ f3 +ℤ l4 *ℤ f4
          → size *ℤ (s *ℤ h -ℤ f) ≡ l1 *ℤ (s *ℤ h1 -ℤ f1) +ℤ l2 *ℤ (s *ℤ h2 -ℤ f2) +ℤ l3 *ℤ (s *ℤ h3 -ℤ f3) +ℤ l4 *ℤ (s *ℤ h4 -ℤ f4) +ℤ s *ℤ (size *ℤ h -ℤ (l1 *ℤ h1 +ℤ l2 *ℤ h2 +ℤ l3 *ℤ h3 +ℤ l4 *ℤ h4))
      by size l1 l2 l3 l4 h h1 h2 h3 h4 f f1 f2 f3 f4 cramer =
          ring (size ∷ s ∷ h ∷ f ∷ []) (times (var 0) (minus (times (var 1) (var 2)) (var 3))) (minus (times (times (var 0) (var 1)) (var 2)) (times (var 0) (var 3))) refl
          ∙ ap (λ z. (size *ℤ s) *ℤ h -ℤ z) cramer
          ∙ (let g = λ (i j : ℕ). minus (times (var 14) (var i)) (var j) in
          let sum4 = λ (i : ℕ). plus (plus (plus (times (var 1) (var i)) (times (var 2) (var (i + 1)))) (times (var 3) (var (i + 2)))) (times (var 4) (var (i + 3))) in
          ring (size ∷ l1 ∷ l2 ∷ l3 ∷ l4 ∷ h ∷ h1 ∷ h2 ∷ h3 ∷ h4 ∷ f1 ∷ f2 ∷ f3 ∷ f4 ∷ s ∷ [])
          (minus (times (times (var 0) (var 14)) (var 5)) (sum4 10))
          (plus (plus (plus (plus (times (var 1) (g 6 10)) (times (var 2) (g 7 11))) (times (var 3) (g 8 12))) (times (var 4) (g 9 13))) (times (var 14) (minus (times (var 0) (var 5)) (sum4 6)))) refl)

-- ---- low simplices and the target

module _ (xs : List Point) (v : ℕ → ℤ) (m : Vector) where
  abbrev at : ℕ → Vector
  at = place_of_point xs

  abbrev vol : ℕ → ℕ → ℕ → ℕ → ℤ
  vol = volume at v

  abbrev ris : ℕ → ℕ → ℕ → ℕ → ℕ → ℤ
  ris = rise at v

  abbrev IsOneOf : ℕ → ℕ → ℕ → ℕ → ℕ → Type 0
  IsOneOf a b c d x = (x ≡ a) ⊎ ((x ≡ b) ⊎ ((x ≡ c) ⊎ (x ≡ d)))

  module _ (a b c d : ℕ) (low : IsLow xs v m a b c d) where
    -- a point of the facet is one of the four, or above them
    one_or_above : (x : ℕ) → IsNumberOf xs x → IsTight m (at x) → IsOneOf a b c d x ⊎ (pos 0 <ℤ (vol a b c d *ℤ ris a b c d x))
    one_or_above x n t =
        ⊎_elim (λ e. inl (inl e)) (λ na. ⊎_elim (λ e. inl (inr (inl e))) (λ nb. ⊎_elim (λ e. inl (inr (inr (inl e)))) (λ nc. ⊎_elim (λ e. inl (inr (inr (inr e)))) (λ nd. inr (low.above x n na nb nc nd t)) (same_or x d)) (same_or x c)) (same_or x b)) (same_or x a)

    on_level : (x : ℕ) → IsOneOf a b c d x → ris a b c d x ≡ pos 0
    on_level x (inl e) = ap (ris a b c d) e ∙ rise_first at v a b c d
    on_level x (inr (inl e)) = ap (ris a b c d) e ∙ rise_second at v a b c d
    on_level x (inr (inr (inl e))) = ap (ris a b c d) e ∙ rise_third at v a b c d
    on_level x (inr (inr (inr e))) = ap (ris a b c d) e ∙ rise_fourth at v a b c d

    pub not_under : (x : ℕ) → IsNumberOf xs x → IsTight m (at x) → pos 0 ≤ℤ (vol a b c d *ℤ ris a b c d x)
    not_under x n t = ⊎_elim (λ o. zero_not_negative _ (zero_out (vol a b c d) (ris a b c d x) (on_level x o))) (λ l. not_negative (vol a b c d *ℤ ris a b c d x) l) (one_or_above x n t)

    pub level_one : (x : ℕ) → IsNumberOf xs x → IsTight m (at x) → vol a b c d *ℤ ris a b c d x ≡ pos 0 → IsOneOf a b c d x
    level_one x n t e = ⊎_elim (λ o. o) (λ l. absurd (positive_some (vol a b c d *ℤ ris a b c d x) l e)) (one_or_above x n t)

  module _ (i j k l : ℕ) (target : IsLow xs v m i j k l) where
    -- a sum over the target's points
    abbrev pub total : (ℕ → ℤ) → ℤ
    total f = f i +ℤ f j +ℤ f k +ℤ f l

    -- how far the target lies above the four, times the square of their volume
    abbrev pub level : ℕ → ℕ → ℕ → ℕ → ℤ
    level a b c d = total (λ x. vol a b c d *ℤ ris a b c d x)

    pub level_not_negative : (a b c d : ℕ) → IsLow xs v m a b c d → pos 0 ≤ℤ level a b c d
    level_not_negative a b c d low =
        let o = not_under a b c d low in let n = target.numbers in let t = target.tight in
        four_not_negative (vol a b c d *ℤ ris a b c d i) (vol a b c d *ℤ ris a b c d j) (vol a b c d *ℤ ris a b c d k) (vol a b c d *ℤ ris a b c d l) (o i n.0 t.0) (o j n.1 t.1) (o k n.2 t.2) (o l n.3 t.3)

    -- the next simplex is no nearer, yet the ridge parts the target
    pub no_lower : (a b c d e : ℕ) → IsLow xs v m a b c d → IsLow xs v m a b c e → (vol a b c d *ℤ vol a b c e) <ℤ pos 0 → (total (λ x. vol a b c d *ℤ vol a b c x)) <ℤ pos 0
        → pos 0 ≤ℤ ((vol a b c d *ℤ vol a b c d) *ℤ level a b c e -ℤ level a b c d *ℤ (vol a b c e *ℤ vol a b c e)) → ⊥
    no_lower a b c d e low next opposite parted o =
        no_nearer (vol a b c d) (vol a b c e) (ris a b c d e) (vol a b c i +ℤ vol a b c j +ℤ vol a b c k +ℤ vol a b c l) opposite
        (low.above e next.numbers.3 first second third fourth next.tight.3)
        (subst (λ z. z <ℤ pos 0) (gathered (vol a b c d) (vol a b c i) (vol a b c j) (vol a b c k) (vol a b c l)) parted)
        ((vol a b c d *ℤ vol a b c d) *ℤ level a b c e -ℤ level a b c d *ℤ (vol a b c e *ℤ vol a b c e)) o
        (nearer (vol a b c d) (vol a b c e) (ris a b c d e) (vol a b c i) (vol a b c j) (vol a b c k) (vol a b c l) (ris a b c d i) (ris a b c d j) (ris a b c d k) (ris a b c d l) (ris a b c e i) (ris a b c e j) (ris a b c e k) (ris a b c e l)
        (one i) (one j) (one k) (one l))
      where
        gathered : (z x1 x2 x3 x4 : ℤ) → z *ℤ x1 +ℤ z *ℤ x2 +ℤ z *ℤ x3 +ℤ z *ℤ x4 ≡ z *ℤ (x1 +ℤ x2 +ℤ x3 +ℤ x4)
        gathered z x1 x2 x3 x4 = ring (z ∷ x1 ∷ x2 ∷ x3 ∷ x4 ∷ []) (plus (plus (plus (times (var 0) (var 1)) (times (var 0) (var 2))) (times (var 0) (var 3))) (times (var 0) (var 4))) (times (var 0) (plus (plus (plus (var 1) (var 2)) (var 3)) (var 4))) refl

        zero_gap : (x : ℕ) → ris a b c e x ≡ pos 0 → gap at v (vol a b c e) (through at v a b c e) x ≡ pos 0
        zero_gap x q = sym (rise_gap at v a b c e x) ∙ q

        one : (x : ℕ) → vol a b c d *ℤ ris a b c e x ≡ vol a b c x *ℤ neg_ℤ (ris a b c d e) +ℤ vol a b c e *ℤ ris a b c d x
        one x =
            ap (λ z. vol a b c d *ℤ z) (rise_gap at v a b c e x)
            ∙ gap_fourth at v (vol a b c e) (through at v a b c e) a b c d x (zero_gap a (rise_first at v a b c e)) (zero_gap b (rise_second at v a b c e)) (zero_gap c (rise_third at v a b c e))
            ∙ ap (λ z. vol a b c x *ℤ z +ℤ vol a b c e *ℤ ris a b c d x) (sym (rise_gap at v a b c e d) ∙ rise_exchange at v a b c d e)

        apart : (x : ℕ) → vol a b c x ≡ pos 0 → e ≢ x
        apart x q s = next.independent (ap (λ y. vol a b c y) s ∙ q)

        first : e ≢ a
        first = apart a (same_first (at a) (at b) (at c))

        second : e ≢ b
        second = apart b (same_second (at a) (at b) (at c))

        third : e ≢ c
        third = apart c (same_third (at a) (at b) (at c))

        fourth : e ≢ d
        fourth s = no (vol a b c d *ℤ vol a b c d) (subst (λ y. (vol a b c d *ℤ vol a b c y) <ℤ pos 0) s opposite) (square_not_negative (vol a b c d))
          where
            no : (z : ℤ) → z <ℤ pos 0 → pos 0 ≤ℤ z → ⊥
            no z l k = absurd (omega (arith, ints, l, k))

    -- no ridge of the four parts the target
    pub none_apart : (a b c d : ℕ) → IsLow xs v m a b c d
        → pos 0 ≤ℤ total (λ x. vol a b c d *ℤ vol x b c d) → pos 0 ≤ℤ total (λ x. vol a b c d *ℤ vol a x c d) → pos 0 ≤ℤ total (λ x. vol a b c d *ℤ vol a b x d) → pos 0 ≤ℤ total (λ x. vol a b c d *ℤ vol a b c x)
        → IsOneOf a b c d i × IsOneOf a b c d j × IsOneOf a b c d k × IsOneOf a b c d l
    none_apart a b c d low l1 l2 l3 l4 =
        let up = not_under i j k l target in let n = low.numbers in let t = low.tight in
        let V = vol a b c d in let W = vol i j k l in
        let sum = last_zero (total (λ x. V *ℤ vol x b c d) *ℤ (W *ℤ ris i j k l a)) (total (λ x. V *ℤ vol a x c d) *ℤ (W *ℤ ris i j k l b)) (total (λ x. V *ℤ vol a b x d) *ℤ (W *ℤ ris i j k l c)) (total (λ x. V *ℤ vol a b c x) *ℤ (W *ℤ ris i j k l d))
        (W *ℤ W) (level a b c d)
        (product_not_negative (total (λ x. V *ℤ vol x b c d)) (W *ℤ ris i j k l a) l1 (up a n.0 t.0)) (product_not_negative (total (λ x. V *ℤ vol a x c d)) (W *ℤ ris i j k l b) l2 (up b n.1 t.1))
        (product_not_negative (total (λ x. V *ℤ vol a b x d)) (W *ℤ ris i j k l c) l3 (up c n.2 t.2)) (product_not_negative (total (λ x. V *ℤ vol a b c x)) (W *ℤ ris i j k l d) l4 (up d n.3 t.3))
        (square_positive W target.independent) (level_not_negative a b c d low)
        (balanced V W (ris i j k l a) (ris i j k l b) (ris i j k l c) (ris i j k l d) (ris a b c d i) (ris a b c d j) (ris a b c d k) (ris a b c d l)
        (vol i b c d) (vol j b c d) (vol k b c d) (vol l b c d) (vol a i c d) (vol a j c d) (vol a k c d) (vol a l c d) (vol a b i d) (vol a b j d) (vol a b k d) (vol a b l d) (vol a b c i) (vol a b c j) (vol a b c k) (vol a b c l)
        (at_target i (rise_first at v i j k l)) (at_target j (rise_second at v i j k l)) (at_target k (rise_third at v i j k l)) (at_target l (rise_fourth at v i j k l))) in
        let o = not_under a b c d low in let tn = target.numbers in let tt' = target.tight in
        let z = four_zero (V *ℤ ris a b c d i) (V *ℤ ris a b c d j) (V *ℤ ris a b c d k) (V *ℤ ris a b c d l) (o i tn.0 tt'.0) (o j tn.1 tt'.1) (o k tn.2 tt'.2) (o l tn.3 tt'.3) sum in
        let one = level_one a b c d low in
        (one i tn.0 tt'.0 z.0, one j tn.1 tt'.1 z.1, one k tn.2 tt'.2 z.2, one l tn.3 tt'.3 z.3)
      where
        at_target : (x : ℕ) → ris i j k l x ≡ pos 0 → pos 0 ≡ vol x b c d *ℤ ris i j k l a +ℤ vol a x c d *ℤ ris i j k l b +ℤ vol a b x d *ℤ ris i j k l c +ℤ vol a b c x *ℤ ris i j k l d +ℤ vol i j k l *ℤ ris a b c d x
        at_target x e =
            sym (zero_out (vol a b c d) (ris i j k l x) e) ∙ ap (λ z. vol a b c d *ℤ z) (rise_gap at v i j k l x)
            ∙ gap_mixed at v (vol i j k l) (through at v i j k l) a b c d x
            ∙ (λ q. vol x b c d *ℤ sym (rise_gap at v i j k l a) q +ℤ vol a x c d *ℤ sym (rise_gap at v i j k l b) q +ℤ vol a b x d *ℤ sym (rise_gap at v i j k l c) q +ℤ vol a b c x *ℤ sym (rise_gap at v i j k l d) q +ℤ vol i j k l *ℤ ris a b c d x)
