-- Tests of the entries of a list, each with the entries after it.
--     each_tail t xs, some_tail t xs      t passes at each entry of xs, or at some entry
--     each_from, some_from      what that says of the entries from a place on
use Rattle.std.proofs.Common.{◌≡◌, ℕ, zero, suc, ◌<◌, ◌≤◌, ◌⊎◌, inl, inr, Bool, true, false, ◌&&◌, List, [], ◌∷◌, refl, arith, length, drop}
use Rattle.ntfe_nums.specs.Vectors.{Vector}
use Rattle.ntfe_model.specs.Reflexive.{at}

-- a case of `elim` is computed only where it holds, so a search ends where it is decided
abbrev pub each_tail : (Vector → List Vector → Bool) → List Vector → Bool
each_tail t [] = true
each_tail t (x ∷ xs) = elim (t x xs) [ true ↦ each_tail t xs | false ↦ false ]

abbrev pub some_tail : (Vector → List Vector → Bool) → List Vector → Bool
some_tail t [] = false
some_tail t (x ∷ xs) = elim (t x xs) [ true ↦ true | false ↦ some_tail t xs ]

-- the parts of `x and y`, and of `x or y`, where y is computed only if it is needed
pub both : (x y : Bool) → elim x [ true ↦ y | false ↦ false ] ≡ true → (x ≡ true) × (y ≡ true)
both true y e = (refl, e)
both false y e = cc

pub one_of : (x y : Bool) → elim x [ true ↦ true | false ↦ y ] ≡ true → (x ≡ true) ⊎ (y ≡ true)
one_of true y e = inl refl
one_of false y e = inr e

pub both_parts : (x y : Bool) → (x && y) ≡ true → (x ≡ true) × (y ≡ true)
both_parts true y e = (refl, e)
both_parts false y e = cc

pub each_from : (t : Vector → List Vector → Bool) (xs : List Vector) (n i : ℕ) → each_tail t (drop n xs) ≡ true → n ≤ i → i < length xs
    → t (at xs i) (drop (suc i) xs) ≡ true
each_from t [] n i e h l = absurd (omega arith)
each_from t (x ∷ xs) zero zero e h l = (both (t x xs) _ e).0
each_from t (x ∷ xs) zero (suc i) e h l = each_from t xs zero i (both (t x xs) _ e).1 (omega arith) (omega arith)
each_from t (x ∷ xs) (suc n) zero e h l = absurd (omega arith)
each_from t (x ∷ xs) (suc n) (suc i) e h l = each_from t xs n i e (omega arith) (omega arith)

-- a place of the list, not before n, at which the test passes
abbrev pub Found : (Vector → List Vector → Bool) → List Vector → ℕ → Type 0
Found t xs n = (i : ℕ) × (n ≤ i) × (i < length xs) × (t (at xs i) (drop (suc i) xs) ≡ true)

one_later : (t : Vector → List Vector → Bool) (x : Vector) (xs : List Vector) (n m : ℕ) → m ≤ suc n → Found t xs n → Found t (x ∷ xs) m
one_later t x xs n m h f = (suc f.0, (let l : n ≤ f.0 = f.1 in omega arith), (let l : f.0 < length xs = f.2 in omega arith), f.3)

pub some_from : (t : Vector → List Vector → Bool) (xs : List Vector) (n : ℕ) → some_tail t (drop n xs) ≡ true → Found t xs n
some_from t [] zero e = cc
some_from t [] (suc n) e = cc
some_from t (x ∷ xs) zero e =
    elim (one_of (t x xs) _ e) [
      | inl p ↦ (zero, omega arith, omega arith, p)
      | inr q ↦ one_later t x xs zero zero (omega arith) (some_from t xs zero q)
    ]
some_from t (x ∷ xs) (suc n) e = one_later t x xs n (suc n) (omega arith) (some_from t xs n e)
