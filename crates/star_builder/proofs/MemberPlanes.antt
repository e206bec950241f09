-- A member of a star, three of its points i, j and k, and another point p of their plane: p = x i + y j + z k.
--     outside_member      p is no point of the member
--     form_leads      if p is lexicographically above the member, then it is above i, j and k: the first number of the plane's form that is not 0 is positive
use Rattle.std.proofs.Common.{◌≡◌, ◌≢◌, ℕ, zero, suc, ◌+◌, ◌<◌, ◌==◌, ◌⊎◌, inl, inr, ⊎_elim, false, refl, sym, ap, ◌∙◌, arith, ℤ, pos, negsuc, ◌+ℤ◌, ◌-ℤ◌, ◌*ℤ◌, ◌<ℤ◌, neg_ℤ, List, [], ◌∷◌, map, unsigned_abs}
use Rattle.std.specs.Prelude.{Contains}
use Rattle.std.proofs.lemmas.Int.{ints}
use Rattle.ntfe_nums.specs.Vectors.{Vector, vector_sum, multiple, det4, AreLinearlyIndependent}
use Rattle.ntfe_nums.proofs.Ring.{ring}
use Rattle.ntfe_nums.proofs.Ring.Expression.{var, num, minus, plus, times, neg}
use Rattle.ntfe_nums.proofs.Comparisons.{same_from_test, other_from_test, cond_is}
use Rattle.ntfe_model.specs.Points.{place_of_point}
use Rattle.ntfe_model.specs.Choices.{height}
use Rattle.ntfe_model.specs.Stars.{IsFirstPositive, IsLexAbove, push_coefficient}
use Rattle.ntfe_model.specs.declared.point.Point.{Point}
use Rattle.ntfe_model.proofs.PlaneNumbers.{zero_factor, positive_factor}
use Rattle.star_builder.proofs.FourPoints.{one_at, one_here, one_elsewhere, combined, vectors_combined, in_four, combined_one, spread, combined_spread, factors_fixed}
use Rattle.ntfe_nums.proofs.Signs.{positive_same, positive_some}

-- ---- multiples of a list

-- a positive divisor leaves the first number positive
pub first_divided : (size : ℤ) → pos 0 <ℤ size → (f g : ℕ → ℤ) → ((m : ℕ) → f m ≡ g m *ℤ size) → (ks : List ℕ) (y z : ℤ) → y ≡ z *ℤ size
    → IsFirstPositive (y ∷ map f ks) → IsFirstPositive (z ∷ map g ks)
first_divided size above f g same ks y z e (inl l) = inl (positive_factor z size above (positive_same y (z *ℤ size) e l))
first_divided size above f g same [] y z e (inr (q, none)) = absurd none
first_divided size above f g same (k ∷ ks) y z e (inr (q, rest)) =
    inr (⊎_elim (λ r. r) (λ r. absurd (positive_some size above r)) (zero_factor z size (sym e ∙ q)), first_divided size above f g same ks (f k) (g k) (same k) rest)

-- the size of a number that is not 0
pub size_positive : (d size : ℤ) → d ≢ pos 0 → size ≡ pos (unsigned_abs d) → pos 0 <ℤ size
size_positive (pos zero) size n e = absurd (n refl)
size_positive (pos (suc m)) size n e = omega (arith, ints, e)
size_positive (negsuc m) size n e = omega (arith, ints, e)

-- the factor of the height of m in w(p) - x w(i) - y w(j) - z w(k)
abbrev pub form : ℕ → ℕ → ℕ → ℕ → ℤ → ℤ → ℤ → ℕ → ℤ
form p i j k x y z m = one_at p m -ℤ (x *ℤ one_at i m +ℤ y *ℤ one_at j m +ℤ z *ℤ one_at k m)

scaled_number : (size s1 s2 s3 s4 u1 u2 u3 u4 : ℤ) → size *ℤ (s1 *ℤ u1 +ℤ (s2 *ℤ u2 +ℤ (s3 *ℤ u3 +ℤ s4 *ℤ u4)))
    ≡ (s1 *ℤ size) *ℤ u1 +ℤ ((s2 *ℤ size) *ℤ u2 +ℤ ((s3 *ℤ size) *ℤ u3 +ℤ (s4 *ℤ size) *ℤ u4))
scaled_number size s1 s2 s3 s4 u1 u2 u3 u4 =
    let t = λ (m : ℕ). times (var m) (var (m + 4)) in
    let u = λ (m : ℕ). times (times (var m) (var 0)) (var (m + 4)) in
    ring (size ∷ s1 ∷ s2 ∷ s3 ∷ s4 ∷ u1 ∷ u2 ∷ u3 ∷ u4 ∷ [])
    (times (var 0) (plus (t 1) (plus (t 2) (plus (t 3) (t 4))))) (plus (u 1) (plus (u 2) (plus (u 3) (u 4)))) refl

-- the form of a member with the given shares is size times that of its three points
divided_head : (size w u1 u2 u3 u4 s1 s2 s3 s4 : ℤ)
    → size *ℤ w -ℤ ((s1 *ℤ size) *ℤ u1 +ℤ (s2 *ℤ size) *ℤ u2 +ℤ (s3 *ℤ size) *ℤ u3 +ℤ (s4 *ℤ size) *ℤ u4)
    ≡ (w -ℤ (s1 *ℤ u1 +ℤ (s2 *ℤ u2 +ℤ (s3 *ℤ u3 +ℤ s4 *ℤ u4)))) *ℤ size
divided_head size w u1 u2 u3 u4 s1 s2 s3 s4 =
    let t = λ (m : ℕ). times (var m) (var (m + 4)) in
    let u = λ (m : ℕ). times (times (var m) (var 0)) (var (m + 4)) in
    ring (size ∷ s1 ∷ s2 ∷ s3 ∷ s4 ∷ u1 ∷ u2 ∷ u3 ∷ u4 ∷ w ∷ [])
    (minus (times (var 0) (var 9)) (plus (plus (plus (u 1) (u 2)) (u 3)) (u 4)))
    (times (minus (var 9) (plus (t 1) (plus (t 2) (plus (t 3) (t 4))))) (var 0)) refl

module _ (xs : List Point) (a b c d i j k p : ℕ) (x y z : ℤ) (ab : a < b) (bc : b < c) (cd : c < d)
    (hi : Contains (a ∷ b ∷ c ∷ d ∷ []) i) (hj : Contains (a ∷ b ∷ c ∷ d ∷ []) j) (hk : Contains (a ∷ b ∷ c ∷ d ∷ []) k)
    (independent : AreLinearlyIndependent (place_of_point xs a) (place_of_point xs b) (place_of_point xs c) (place_of_point xs d))
    (lies : place_of_point xs p ≡ vector_sum (vector_sum (multiple x (place_of_point xs i)) (multiple y (place_of_point xs j))) (multiple z (place_of_point xs k)))
    (pi : p ≢ i) (pj : p ≢ j) (pk : p ≢ k) where
  abbrev members : List ℕ
  members = a ∷ b ∷ c ∷ d ∷ []

  abbrev share : ℕ → ℤ
  share = spread i j k x y z

  no_share : (m : ℕ) → m ≢ i → m ≢ j → m ≢ k → share m ≡ pos 0
  no_share m ni nj nk = (λ t. x *ℤ one_elsewhere i m ni t +ℤ y *ℤ one_elsewhere j m nj t +ℤ z *ℤ one_elsewhere k m nk t) ∙ omega (arith, ints)

  -- p as a combination of the four points
  shares_lie : vectors_combined share (place_of_point xs) a b c d ≡ place_of_point xs p
  shares_lie =
      let at = λ (f : Vector → ℤ). combined_spread (λ m. f (place_of_point xs m)) a b c d i j k x y z ab bc cd hi hj hk in
      (λ t. record { x1 = at (λ v. v.x1) t; x2 = at (λ v. v.x2) t; x3 = at (λ v. v.x3) t; x4 = at (λ v. v.x4) t }) ∙ sym lies

  pub outside_member : ¬ (Contains members p)
  outside_member h = by (in_four a b c d p h)
    where
      itself : vectors_combined (one_at p) (place_of_point xs) a b c d ≡ place_of_point xs p
      itself =
          let at = λ (f : Vector → ℤ). combined_one (λ m. f (place_of_point xs m)) a b c d p ab bc cd h in
          λ t. record { x1 = at (λ v. v.x1) t; x2 = at (λ v. v.x2) t; x3 = at (λ v. v.x3) t; x4 = at (λ v. v.x4) t }

      fixed : (one_at p a ≡ share a) × (one_at p b ≡ share b) × (one_at p c ≡ share c) × (one_at p d ≡ share d)
      fixed =
          factors_fixed (place_of_point xs a) (place_of_point xs b) (place_of_point xs c) (place_of_point xs d) independent
          (one_at p a) (one_at p b) (one_at p c) (one_at p d) (share a) (share b) (share c) (share d) (itself ∙ sym shares_lie)

      no : (m : ℕ) → p ≡ m → one_at p m ≡ share m → ⊥
      no m e q = differ (sym (one_here p m (sym e)) ∙ q ∙ ap share (sym e) ∙ no_share p pi pj pk)
        where
          differ : pos 1 ≡ pos 0 → ⊥
          differ r = absurd (omega (arith, ints, r))

      by : (p ≡ a) ⊎ ((p ≡ b) ⊎ ((p ≡ c) ⊎ (p ≡ d))) → ⊥
      by (inl e) = no a e fixed.0
      by (inr (inl e)) = no b e fixed.1
      by (inr (inr (inl e))) = no c e fixed.2
      by (inr (inr (inr e))) = no d e fixed.3

  -- the multipliers of the combination are size times the shares
  multipliers : (size l1 l2 l3 l4 : ℤ)
      → multiple size (place_of_point xs p) ≡ vector_sum (multiple l1 (place_of_point xs a)) (vector_sum (multiple l2 (place_of_point xs b)) (vector_sum (multiple l3 (place_of_point xs c)) (multiple l4 (place_of_point xs d))))
      → (l1 ≡ share a *ℤ size) × (l2 ≡ share b *ℤ size) × (l3 ≡ share c *ℤ size) × (l4 ≡ share d *ℤ size)
  multipliers size l1 l2 l3 l4 e =
      factors_fixed (place_of_point xs a) (place_of_point xs b) (place_of_point xs c) (place_of_point xs d) independent
      l1 l2 l3 l4 (share a *ℤ size) (share b *ℤ size) (share c *ℤ size) (share d *ℤ size)
      (sym e ∙ ap (multiple size) (sym shares_lie) ∙ (λ t. record { x1 = at (λ v. v.x1) t; x2 = at (λ v. v.x2) t; x3 = at (λ v. v.x3) t; x4 = at (λ v. v.x4) t }))
    where
      at : (f : Vector → ℤ) → size *ℤ combined share (λ m. f (place_of_point xs m)) a b c d
          ≡ (share a *ℤ size) *ℤ f (place_of_point xs a) +ℤ ((share b *ℤ size) *ℤ f (place_of_point xs b) +ℤ ((share c *ℤ size) *ℤ f (place_of_point xs c) +ℤ (share d *ℤ size) *ℤ f (place_of_point xs d)))
      at f = scaled_number size (share a) (share b) (share c) (share d) (f (place_of_point xs a)) (f (place_of_point xs b)) (f (place_of_point xs c)) (f (place_of_point xs d))

  -- a point that is none of the four has no share
  other_share : (m : ℕ) → m ≢ a → m ≢ b → m ≢ c → m ≢ d → share m ≡ pos 0
  other_share m na nb nc nd = no_share m (none i hi) (none j hj) (none k hk)
    where
      none : (n : ℕ) → Contains members n → m ≢ n
      none n h e = by (in_four a b c d n h)
        where
          by : (n ≡ a) ⊎ ((n ≡ b) ⊎ ((n ≡ c) ⊎ (n ≡ d))) → ⊥
          by (inl q) = na (e ∙ q)
          by (inr (inl q)) = nb (e ∙ q)
          by (inr (inr (inl q))) = nc (e ∙ q)
          by (inr (inr (inr q))) = nd (e ∙ q)

  divided_coefficient : (size : ℤ) (m : ℕ)
      → push_coefficient size (a, share a *ℤ size) (b, share b *ℤ size) (c, share c *ℤ size) (d, share d *ℤ size) p m ≡ form p i j k x y z m *ℤ size
  divided_coefficient size m =
      cond_is (m == p) _ _ _ (λ e. at_p (same_from_test m p e))
      (λ n. cond_is (m == a) _ _ _ (λ e. at_member n a (same_from_test m a e))
      (λ na. cond_is (m == b) _ _ _ (λ e. at_member n b (same_from_test m b e))
      (λ nb. cond_is (m == c) _ _ _ (λ e. at_member n c (same_from_test m c e))
      (λ nc. cond_is (m == d) _ _ _ (λ e. at_member n d (same_from_test m d e))
      (λ nd. elsewhere n (other_share m (other_from_test m a na) (other_from_test m b nb) (other_from_test m c nc) (other_from_test m d nd)))))))
    where
      value_at : (o s o' s' : ℤ) → o ≡ o' → s ≡ s' → (o' -ℤ s') *ℤ size ≡ (o -ℤ s) *ℤ size
      value_at o s o' s' e f = λ t. (sym e t -ℤ sym f t) *ℤ size

      at_p : m ≡ p → size ≡ form p i j k x y z m *ℤ size
      at_p e = by size ∙ value_at (one_at p m) (share m) (pos 1) (pos 0) (one_here p m e) (ap share e ∙ no_share p pi pj pk)
        where
          by : (u : ℤ) → u ≡ (pos 1 -ℤ pos 0) *ℤ u
          by u = ring (u ∷ []) (var 0) (times (minus (num (pos 1)) (num (pos 0))) (var 0)) refl

      at_member : (m == p) ≡ false → (n : ℕ) → m ≡ n → neg_ℤ (share n *ℤ size) ≡ form p i j k x y z m *ℤ size
      at_member off n e = by (share n) size ∙ value_at (one_at p m) (share m) (pos 0) (share n) (one_elsewhere p m (other_from_test m p off)) (ap share e)
        where
          by : (u v : ℤ) → neg_ℤ (u *ℤ v) ≡ (pos 0 -ℤ u) *ℤ v
          by u v = ring (u ∷ v ∷ []) (neg (times (var 0) (var 1))) (times (minus (num (pos 0)) (var 0)) (var 1)) refl

      elsewhere : (m == p) ≡ false → share m ≡ pos 0 → pos 0 ≡ form p i j k x y z m *ℤ size
      elsewhere off e = by size ∙ value_at (one_at p m) (share m) (pos 0) (pos 0) (one_elsewhere p m (other_from_test m p off)) e
        where
          by : (u : ℤ) → pos 0 ≡ (pos 0 -ℤ pos 0) *ℤ u
          by u = ring (u ∷ []) (num (pos 0)) (times (minus (num (pos 0)) (num (pos 0))) (var 0)) refl

  pub form_leads : (w : List ℤ) (order : List ℕ) → IsLexAbove xs w order a b c d p
      → IsFirstPositive ((height w p -ℤ (x *ℤ height w i +ℤ y *ℤ height w j +ℤ z *ℤ height w k)) ∷ map (form p i j k x y z) order)
  form_leads w order r =
      let e = multipliers r.size r.l1 r.l2 r.l3 r.l4 r.combination.mix in
      first_divided r.size (size_positive (det4 (place_of_point xs a) (place_of_point xs b) (place_of_point xs c) (place_of_point xs d)) r.size independent r.combination.size_is)
      (push_coefficient r.size (a, r.l1) (b, r.l2) (c, r.l3) (d, r.l4) p) (form p i j k x y z)
      (λ m. (λ t. push_coefficient r.size (a, e.0 t) (b, e.1 t) (c, e.2 t) (d, e.3 t) p m) ∙ divided_coefficient r.size m)
      order _ _
      ((λ t. r.size *ℤ height w p -ℤ (e.0 t *ℤ height w a +ℤ e.1 t *ℤ height w b +ℤ e.2 t *ℤ height w c +ℤ e.3 t *ℤ height w d))
      ∙ divided_head r.size (height w p) (height w a) (height w b) (height w c) (height w d) (share a) (share b) (share c) (share d)
      ∙ ap (λ q. (height w p -ℤ q) *ℤ r.size) (combined_spread (height w) a b c d i j k x y z ab bc cd hi hj hk))
      r.above
