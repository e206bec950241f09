-- Decisions over signs, and over the numbers below a bound.
use Rattle.std.proofs.Common.{◌≡◌, ◌≢◌, negsuc, ℕ, zero, suc, ◌<◌, ◌≤◌, ◌⊎◌, inl, inr, ⊎_elim, refl, sym, subst, arith, ℤ, pos, ◌<ℤ◌, neg_ℤ}
use Rattle.std.proofs.lemmas.Int.{ints}
use Rattle.ntfe_model.proofs.Triples.{Decided}

pub three_signs : (z : ℤ) → (pos 0 <ℤ z) ⊎ ((z ≡ pos 0) ⊎ (pos 0 <ℤ neg_ℤ z))
three_signs (pos zero) = inr (inl refl)
three_signs (pos (suc n)) = inl (omega (arith, ints))
three_signs (negsuc n) = inr (inr (omega (arith, ints)))

pub two_signs : (z : ℤ) → z ≢ pos 0 → (pos 0 <ℤ z) ⊎ (pos 0 <ℤ neg_ℤ z)
two_signs z n = ⊎_elim inl (λ r. ⊎_elim (λ e. absurd (n e)) inr r) (three_signs z)

pub decide_less : (x y : ℕ) → Decided (x < y)
decide_less x y = ⊎_elim inl (λ l. inr (λ m. absurd (omega (arith, l, m)))) (compare x y)
  where
    compare : (i j : ℕ) → (i < j) ⊎ (j ≤ i)
    compare i j = grind arith

pub decide_at_most : (x y : ℕ) → Decided (x ≤ y)
decide_at_most x y = ⊎_elim inl (λ l. inr (λ m. absurd (omega (arith, l, m)))) (compare x y)
  where
    compare : (i j : ℕ) → (i ≤ j) ⊎ (j < i)
    compare i j = grind arith

pub split_last : (k n : ℕ) → k < suc n → (k < n) ⊎ (k ≡ n)
split_last k n l = grind (arith, l)

-- of all numbers below n
pub decide_all_below : (P : ℕ → Type 0) → ((k : ℕ) → Decided (P k)) → (n : ℕ) → Decided ((k : ℕ) → k < n → P k)
decide_all_below P d zero = inl (λ k l. absurd (omega (arith, l)))
decide_all_below P d (suc n) = by (decide_all_below P d n) (d n)
  where
    by : Decided ((k : ℕ) → k < n → P k) → Decided (P n) → Decided ((k : ℕ) → k < suc n → P k)
    by (inl f) (inl p) = inl (λ k l. ⊎_elim (λ m. f k m) (λ e. subst P (sym e) p) (split_last k n l))
    by (inl f) (inr m) = inr (λ g. m (g n (omega arith)))
    by (inr m) q = inr (λ g. m (λ k l. g k (omega (arith, l))))

-- of some number below n
pub decide_some_below : (P : ℕ → Type 0) → ((k : ℕ) → Decided (P k)) → (n : ℕ) → Decided ((k : ℕ) × (k < n) × P k)
decide_some_below P d zero = inr (λ r. (let l = r.1 in absurd (omega (arith, l))))
decide_some_below P d (suc n) = by (decide_some_below P d n) (d n)
  where
    by : Decided ((k : ℕ) × (k < n) × P k) → Decided (P n) → Decided ((k : ℕ) × (k < suc n) × P k)
    by (inl (k, l, p)) q = inl (k, omega (arith, l), p)
    by (inr m) (inl p) = inl (n, omega arith, p)
    by (inr m) (inr i) = inr (λ r. ⊎_elim (λ l. m (r.0, l, r.2)) (λ e. i (subst P e r.2)) (split_last r.0 n r.1))

pub decide_given : {A B : Type 0} → Decided A → Decided B → Decided (A → B)
decide_given (inr n) q = inl (λ a. absurd (n a))
decide_given (inl a) (inl b) = inl (λ i. b)
decide_given (inl a) (inr m) = inr (λ f. m (f a))

pub decide_both4 : {A B C D : Type 0} → Decided A → Decided B → Decided C → Decided D → Decided (A × B × C × D)
decide_both4 (inl a) (inl b) (inl c) (inl d) = inl (a, b, c, d)
decide_both4 (inr n) q r t = inr (λ p. n p.0)
decide_both4 (inl a) (inr n) r t = inr (λ p. n p.1)
decide_both4 (inl a) (inl b) (inr n) t = inr (λ p. n p.2)
decide_both4 (inl a) (inl b) (inl c) (inr n) = inr (λ p. n p.3)
