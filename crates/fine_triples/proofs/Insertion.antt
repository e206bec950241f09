-- A step that is put in its place among those that wait.
use Rattle.std.proofs.Common.{◌≡◌, ℕ, zero, suc, ◌<◌, ◌≤◌, Bool, true, false, cond, refl, sym, ap, arith, List, [], ◌∷◌, length, get_or, drop}
use Rattle.std.specs.List.{insert}
use Rattle.std.specs.Prelude.{◌==◌}
use Rattle.std.proofs.lemmas.Bool.Decides.{nat_tests}
use Rattle.ntfe_model.specs.Words.{is_before, with_step}

-- its place is before the first step that it comes before
pub insert_is : (e : ℕ × ℕ) (fs : List (ℕ × ℕ)) (i : ℕ) → i ≤ length fs → ((k : ℕ) → k < i → is_before e (get_or fs k (0, 0)) ≡ false)
    → (i < length fs → is_before e (get_or fs i (0, 0)) ≡ true) → insert fs i e ≡ with_step e fs
insert_is e [] zero l b t = refl
insert_is e [] (suc i) l b t = absurd (omega (arith, l))
insert_is e (f ∷ fs) zero l b t = by (is_before e f) (t (omega arith))
  where
    by : (p : Bool) → p ≡ true → e ∷ f ∷ fs ≡ cond p (e ∷ f ∷ fs) (f ∷ with_step e fs)
    by true q = refl
    by false q = cc
insert_is e (f ∷ fs) (suc i) l b t = by (is_before e f) (b 0 (omega arith)) (insert_is e fs i (omega (arith, l)) (λ k m. b (suc k) (omega (arith, m))) (λ m. t (omega (arith, m))))
  where
    by : (p : Bool) → p ≡ false → insert fs i e ≡ with_step e fs → f ∷ insert fs i e ≡ cond p (e ∷ f ∷ fs) (f ∷ with_step e fs)
    by true q r = cc
    by false q r = ap (λ gs. f ∷ gs) r

-- the first of the steps, and the others
pub front_is : (fs gs : List (ℕ × ℕ)) (e : ℕ × ℕ) → 0 < length fs → e ≡ get_or fs 0 e → gs ≡ drop 1 fs → fs ≡ e ∷ gs
front_is [] gs e l p q = absurd (omega (arith, l))
front_is (f ∷ fs) gs e l p q = λ i. sym p i ∷ sym q i

-- what a test for 0 tells of a length
pub some_left : (fs : List (ℕ × ℕ)) (n : ℕ) (b : Bool) → n ≡ length fs → b ≡ (n == 0) → b ≡ false → 0 < length fs
some_left fs n b e p q = grind (arith, nat_tests, e, p, q)

pub none_left : (fs : List (ℕ × ℕ)) (n : ℕ) (b : Bool) → n ≡ length fs → b ≡ (n == 0) → b ≡ true → fs ≡ []
none_left [] n b e p q = refl
none_left (f ∷ fs) n b e p q = by n b e p q
  where
    by : (n : ℕ) (b : Bool) → n ≡ suc (length fs) → b ≡ (n == 0) → b ≡ true → f ∷ fs ≡ []
    by n b e p q = absurd (grind (arith, nat_tests, e, p, q))
