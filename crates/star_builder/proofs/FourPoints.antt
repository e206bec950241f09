-- Combinations of four numbered points, and the numbers spread over three of them.
--     combined l f a b c d      l a f a + l b f b + l c f c + l d f d
--     combined_spread      where three numbers are spread over three of the four, the combination is theirs
--     factors_fixed      factors that give one combination of independent vectors are equal
use Rattle.std.proofs.Common.{◌≡◌, ◌≢◌, ℕ, ◌+◌, ◌<◌, ◌==◌, ◌⊎◌, inl, inr, ⊎_elim, true, false, cond, refl, sym, ap, ◌∙◌, arith, ℤ, pos, ◌+ℤ◌, ◌*ℤ◌, List, [], ◌∷◌}
use Rattle.std.specs.Prelude.{Contains}
use Rattle.std.proofs.lemmas.Int.{ints}
use Rattle.std.proofs.lemmas.Bool.Decides.{nat_tests}
use Rattle.ntfe_nums.specs.Vectors.{Vector, vector_sum, multiple, det4, AreLinearlyIndependent}
use Rattle.ntfe_nums.proofs.Ring.{Expression, ring}
use Rattle.ntfe_nums.proofs.Ring.Expression.{var, plus, times}
use Rattle.ntfe_nums.proofs.DetLemmas.{Row, row, det4E}
use Rattle.ntfe_model.proofs.Listings.{Contains-cases, Contains-none}
use Rattle.ntfe_model.proofs.PlaneNumbers.{cancel_other}

-- ---- one number at one point

-- 1 at k, and 0 elsewhere
abbrev pub one_at : ℕ → ℕ → ℤ
one_at k j = cond (j == k) (pos 1) (pos 0)

pub one_here : (k j : ℕ) → j ≡ k → one_at k j ≡ pos 1
one_here k j e = ap (λ t. cond t (pos 1) (pos 0)) (same e)
  where
    same : j ≡ k → (j == k) ≡ true
    same q = grind (arith, nat_tests)

pub one_elsewhere : (k j : ℕ) → j ≢ k → one_at k j ≡ pos 0
one_elsewhere k j n = ap (λ t. cond t (pos 1) (pos 0)) (other n)
  where
    other : j ≢ k → (j == k) ≡ false
    other q = grind (arith, nat_tests)

-- ---- combinations

abbrev pub combined : (ℕ → ℤ) → (ℕ → ℤ) → ℕ → ℕ → ℕ → ℕ → ℤ
combined l f a b c d = l a *ℤ f a +ℤ (l b *ℤ f b +ℤ (l c *ℤ f c +ℤ l d *ℤ f d))

abbrev pub vectors_combined : (ℕ → ℤ) → (ℕ → Vector) → ℕ → ℕ → ℕ → ℕ → Vector
vectors_combined l v a b c d = vector_sum (multiple (l a) (v a)) (vector_sum (multiple (l b) (v b)) (vector_sum (multiple (l c) (v c)) (multiple (l d) (v d))))

pub in_four : (a b c d k : ℕ) → Contains (a ∷ b ∷ c ∷ d ∷ []) k → (k ≡ a) ⊎ ((k ≡ b) ⊎ ((k ≡ c) ⊎ (k ≡ d)))
in_four a b c d k h =
    ⊎_elim inl
    (λ h1. ⊎_elim (λ e. inr (inl e))
    (λ h2. ⊎_elim (λ e. inr (inr (inl e)))
    (λ h3. ⊎_elim (λ e. inr (inr (inr e))) (Contains-none k) (Contains-cases k d [] h3))
    (Contains-cases k c (d ∷ []) h2))
    (Contains-cases k b (c ∷ d ∷ []) h1))
    (Contains-cases k a (b ∷ c ∷ d ∷ []) h)

-- the combination with 1 at one of the four points is the value there
pub combined_one : (f : ℕ → ℤ) (a b c d k : ℕ) → a < b → b < c → c < d → Contains (a ∷ b ∷ c ∷ d ∷ []) k → combined (one_at k) f a b c d ≡ f k
combined_one f a b c d k ab bc cd h = by (in_four a b c d k h)
  where
    picked : (x1 x2 x3 x4 y1 y2 y3 y4 : ℤ) → x1 ≡ y1 → x2 ≡ y2 → x3 ≡ y3 → x4 ≡ y4 → x1 *ℤ f a +ℤ (x2 *ℤ f b +ℤ (x3 *ℤ f c +ℤ x4 *ℤ f d)) ≡ y1 *ℤ f a +ℤ (y2 *ℤ f b +ℤ (y3 *ℤ f c +ℤ y4 *ℤ f d))
    picked x1 x2 x3 x4 y1 y2 y3 y4 e1 e2 e3 e4 = λ i. e1 i *ℤ f a +ℤ (e2 i *ℤ f b +ℤ (e3 i *ℤ f c +ℤ e4 i *ℤ f d))

    other : (j : ℕ) → (j < k) ⊎ (k < j) → one_at k j ≡ pos 0
    other j l = one_elsewhere k j (λ e. apart l e)
      where
        apart : (j < k) ⊎ (k < j) → j ≡ k → ⊥
        apart (inl m) e = absurd (omega (arith, m, e))
        apart (inr m) e = absurd (omega (arith, m, e))

    -- exactly one of the four numbers is k
    by : (k ≡ a) ⊎ ((k ≡ b) ⊎ ((k ≡ c) ⊎ (k ≡ d))) → combined (one_at k) f a b c d ≡ f k
    by (inl e) =
        picked _ _ _ _ _ _ _ _ (one_here k a (sym e)) (other b (inr (omega (arith, e)))) (other c (inr (omega (arith, e)))) (other d (inr (omega (arith, e))))
        ∙ omega (arith, ints) ∙ ap f (sym e)
    by (inr (inl e)) =
        picked _ _ _ _ _ _ _ _ (other a (inl (omega (arith, e)))) (one_here k b (sym e)) (other c (inr (omega (arith, e)))) (other d (inr (omega (arith, e))))
        ∙ omega (arith, ints) ∙ ap f (sym e)
    by (inr (inr (inl e))) =
        picked _ _ _ _ _ _ _ _ (other a (inl (omega (arith, e)))) (other b (inl (omega (arith, e)))) (one_here k c (sym e)) (other d (inr (omega (arith, e))))
        ∙ omega (arith, ints) ∙ ap f (sym e)
    by (inr (inr (inr e))) =
        picked _ _ _ _ _ _ _ _ (other a (inl (omega (arith, e)))) (other b (inl (omega (arith, e)))) (other c (inl (omega (arith, e)))) (one_here k d (sym e))
        ∙ omega (arith, ints) ∙ ap f (sym e)

-- ---- three numbers at three points

-- x at i, y at j, z at k, and 0 elsewhere
abbrev pub spread : ℕ → ℕ → ℕ → ℤ → ℤ → ℤ → ℕ → ℤ
spread i j k x y z m = x *ℤ one_at i m +ℤ y *ℤ one_at j m +ℤ z *ℤ one_at k m

abbrev fourE : Expression → Expression → Expression → Expression → Expression
fourE a b c d = plus (times a (var 3)) (plus (times b (var 4)) (plus (times c (var 5)) (times d (var 6))))

abbrev threeE : Expression → Expression → Expression → Expression
threeE a b c = plus (plus (times (var 0) a) (times (var 1) b)) (times (var 2) c)

pub combined_spread : (f : ℕ → ℤ) (a b c d i j k : ℕ) (x y z : ℤ) → a < b → b < c → c < d
    → Contains (a ∷ b ∷ c ∷ d ∷ []) i → Contains (a ∷ b ∷ c ∷ d ∷ []) j → Contains (a ∷ b ∷ c ∷ d ∷ []) k
    → combined (spread i j k x y z) f a b c d ≡ x *ℤ f i +ℤ y *ℤ f j +ℤ z *ℤ f k
combined_spread f a b c d i j k x y z ab bc cd hi hj hk =
    ring (x ∷ y ∷ z ∷ f a ∷ f b ∷ f c ∷ f d ∷ one_at i a ∷ one_at i b ∷ one_at i c ∷ one_at i d ∷ one_at j a ∷ one_at j b ∷ one_at j c ∷ one_at j d ∷ one_at k a ∷ one_at k b ∷ one_at k c ∷ one_at k d ∷ [])
    (fourE (threeE (var 7) (var 11) (var 15)) (threeE (var 8) (var 12) (var 16)) (threeE (var 9) (var 13) (var 17)) (threeE (var 10) (var 14) (var 18)))
    (threeE (fourE (var 7) (var 8) (var 9) (var 10)) (fourE (var 11) (var 12) (var 13) (var 14)) (fourE (var 15) (var 16) (var 17) (var 18))) refl
    ∙ (λ t. x *ℤ combined_one f a b c d i ab bc cd hi t +ℤ y *ℤ combined_one f a b c d j ab bc cd hj t +ℤ z *ℤ combined_one f a b c d k ab bc cd hk t)

-- ---- independent vectors

abbrev sumE : Row
sumE =
    let line = λ (k : ℕ). plus (times (var 16) (var k)) (plus (times (var 17) (var (k + 4))) (plus (times (var 18) (var (k + 8))) (times (var 19) (var (k + 12))))) in
    record { x1 = line 0; x2 = line 1; x3 = line 2; x4 = line 3 }

module _ (a b c d : Vector) where
  abbrev sum_of : ℤ → ℤ → ℤ → ℤ → Vector
  sum_of i j k l = vector_sum (multiple i a) (vector_sum (multiple j b) (vector_sum (multiple k c) (multiple l d)))

  abbrev numbers_of : ℤ → ℤ → ℤ → ℤ → List ℤ
  numbers_of i j k l = a.x1 ∷ a.x2 ∷ a.x3 ∷ a.x4 ∷ b.x1 ∷ b.x2 ∷ b.x3 ∷ b.x4 ∷ c.x1 ∷ c.x2 ∷ c.x3 ∷ c.x4 ∷ d.x1 ∷ d.x2 ∷ d.x3 ∷ d.x4 ∷ i ∷ j ∷ k ∷ l ∷ []

  first_factor : (i j k l : ℤ) → det4 (sum_of i j k l) b c d ≡ i *ℤ det4 a b c d
  unfolding det4
  first_factor i j k l = ring (numbers_of i j k l) (det4E sumE (row 4) (row 8) (row 12)) (times (var 16) (det4E (row 0) (row 4) (row 8) (row 12))) refl

  second_factor : (i j k l : ℤ) → det4 a (sum_of i j k l) c d ≡ j *ℤ det4 a b c d
  unfolding det4
  second_factor i j k l = ring (numbers_of i j k l) (det4E (row 0) sumE (row 8) (row 12)) (times (var 17) (det4E (row 0) (row 4) (row 8) (row 12))) refl

  third_factor : (i j k l : ℤ) → det4 a b (sum_of i j k l) d ≡ k *ℤ det4 a b c d
  unfolding det4
  third_factor i j k l = ring (numbers_of i j k l) (det4E (row 0) (row 4) sumE (row 12)) (times (var 18) (det4E (row 0) (row 4) (row 8) (row 12))) refl

  fourth_factor : (i j k l : ℤ) → det4 a b c (sum_of i j k l) ≡ l *ℤ det4 a b c d
  unfolding det4
  fourth_factor i j k l = ring (numbers_of i j k l) (det4E (row 0) (row 4) (row 8) sumE) (times (var 19) (det4E (row 0) (row 4) (row 8) (row 12))) refl

  pub factors_fixed : AreLinearlyIndependent a b c d → (i j k l i' j' k' l' : ℤ) → sum_of i j k l ≡ sum_of i' j' k' l' → (i ≡ i') × (j ≡ j') × (k ≡ k') × (l ≡ l')
  factors_fixed independent i j k l i' j' k' l' e = (
    cancel_other i i' (det4 a b c d) independent (sym (first_factor i j k l) ∙ ap (λ v. det4 v b c d) e ∙ first_factor i' j' k' l'),
    cancel_other j j' (det4 a b c d) independent (sym (second_factor i j k l) ∙ ap (λ v. det4 a v c d) e ∙ second_factor i' j' k' l'),
    cancel_other k k' (det4 a b c d) independent (sym (third_factor i j k l) ∙ ap (λ v. det4 a b v d) e ∙ third_factor i' j' k' l'),
    cancel_other l l' (det4 a b c d) independent (sym (fourth_factor i j k l) ∙ ap (det4 a b c) e ∙ fourth_factor i' j' k' l'),
  )
