-- The first coefficient along the order of pushing that is not 0.
use Rattle.std.proofs.Common.{◌≡◌, ◌≢◌, ◌==◌, ℕ, zero, suc, ◌+◌, ◌-◌, ◌<◌, ◌≤◌, inl, inr, ⊎_elim, Bool, true, false, cond, refl, sym, ap, ◌∙◌, subst, arith, ℤ, pos, ◌<ℤ◌, neg_ℤ, List, [], ◌∷◌, map, length, get_or}
use Rattle.std.specs.Prelude.{reverse}
use Rattle.std.specs.List.{range_with_len}
use Rattle.std.proofs.lemmas.Int.{ints}
use Rattle.std.proofs.lemmas.Bool.Decides.{nat_tests}
use Rattle.std.proofs.lemmas.List.{get_or-map, get_or-reverse, length-reverse, length-map}
use Rattle.std.proofs.lemmas.List.FromFn.{get_or-range_with_len, get_or-map-range_with_len, length-range_with_len, length-map-range_with_len}
use Rattle.ntfe_model.specs.Stars.{IsFirstPositive, order_of, push_coefficient}
use Rattle.ntfe_model.specs.declared.nogood.Push.{Push}
use Rattle.ntfe_model.specs.declared.nogood.Push.TheVariants.{Up, Down}
use Rattle.ntfe_nums.proofs.Signs.{positive_some}

-- ---- in a list

first_in : (zs : List ℤ) (i : ℕ) → i < length zs → ((j : ℕ) → j < i → get_or zs j (pos 0) ≡ pos 0) → pos 0 <ℤ get_or zs i (pos 0) → IsFirstPositive zs
first_in [] i h before p = absurd (omega arith)
first_in (z ∷ zs) zero h before p = inl p
first_in (z ∷ zs) (suc i) h before p = inr (before 0 (omega arith), first_in zs i (omega arith) (λ j k. before (suc j) (omega arith)) p)

not_first_in : (zs : List ℤ) (i : ℕ) → i < length zs → ((j : ℕ) → j < i → get_or zs j (pos 0) ≡ pos 0) → get_or zs i (pos 0) <ℤ pos 0 → IsFirstPositive zs → ⊥
not_first_in [] i h before p f = absurd (omega arith)
not_first_in (z ∷ zs) zero h before p f = ⊎_elim (λ q. both z q p) (λ q. none z q.0 p) f
  where
    both : (y : ℤ) → pos 0 <ℤ y → y <ℤ pos 0 → ⊥
    both y q r = absurd (omega (arith, ints, q, r))

    none : (y : ℤ) → y ≡ pos 0 → y <ℤ pos 0 → ⊥
    none y q r = absurd (omega (arith, ints, q, r))
not_first_in (z ∷ zs) (suc i) h before p f = ⊎_elim (λ q. positive_some z q (before 0 (omega arith))) (λ q. not_first_in zs i (omega arith) (λ j k. before (suc j) (omega arith)) p q.1) f

-- ---- along the order

-- j comes before k
abbrev pub Comes : Push → ℕ → ℕ → Type 0
Comes Up j k = j < k
Comes Down j k = k < j

module _ (f : ℕ → ℤ) (n : ℕ) where
  at_up : (i : ℕ) → i < n → get_or (map f (order_of Up n)) i (pos 0) ≡ f (1 + i)
  at_up i h = get_or-map-range_with_len f 1 n i (1 + i) (pos 0) h refl

  at_down : (i : ℕ) → i < n → get_or (map f (order_of Down n)) i (pos 0) ≡ f (n - i)
  at_down i h =
      let e = length-range_with_len 1 n in
      let g = length-reverse (range_with_len 1 n) in
      let k : length (range_with_len 1 n) - 1 - i ≡ n - 1 - i = omega arith in
      get_or-map f (reverse (range_with_len 1 n)) i 0 (pos 0) (omega arith)
      ∙ ap f (get_or-reverse (range_with_len 1 n) i 0 (omega arith) ∙ ap (λ j. get_or (range_with_len 1 n) j 0) k
      ∙ get_or-range_with_len 1 n (n - 1 - i) 0 (omega arith) ∙ (let q : 1 + (n - 1 - i) ≡ n - i = omega arith in q))

  length_up : length (map f (order_of Up n)) ≡ n
  length_up = length-map-range_with_len f 1 n

  length_down : length (map f (order_of Down n)) ≡ n
  length_down = length-map (reverse (range_with_len 1 n)) f ∙ length-reverse (range_with_len 1 n) ∙ length-range_with_len 1 n

  zero_before_up : (k : ℕ) → 1 ≤ k → k ≤ n → ((j : ℕ) → 1 ≤ j → j ≤ n → j < k → f j ≡ pos 0) → (j : ℕ) → j < k - 1 → get_or (map f (order_of Up n)) j (pos 0) ≡ pos 0
  zero_before_up k h l z j m = at_up j (omega arith) ∙ z (1 + j) (omega arith) (omega arith) (omega arith)

  zero_before_down : (k : ℕ) → 1 ≤ k → k ≤ n → ((j : ℕ) → 1 ≤ j → j ≤ n → k < j → f j ≡ pos 0) → (j : ℕ) → j < n - k → get_or (map f (order_of Down n)) j (pos 0) ≡ pos 0
  zero_before_down k h l z j m = at_down j (omega arith) ∙ z (n - j) (omega arith) (omega arith) (omega arith)

  value_up : (k : ℕ) → 1 ≤ k → k ≤ n → get_or (map f (order_of Up n)) (k - 1) (pos 0) ≡ f k
  value_up k h l = at_up (k - 1) (omega arith) ∙ ap f (let e : 1 + (k - 1) ≡ k = omega arith in e)

  value_down : (k : ℕ) → 1 ≤ k → k ≤ n → get_or (map f (order_of Down n)) (n - k) (pos 0) ≡ f k
  value_down k h l = at_down (n - k) (omega arith) ∙ ap f (let e : n - (n - k) ≡ k = omega arith in e)

  -- where all before k are 0, the one at k decides
  pub first_positive : (push : Push) (k : ℕ) → 1 ≤ k → k ≤ n → ((j : ℕ) → 1 ≤ j → j ≤ n → Comes push j k → f j ≡ pos 0) → pos 0 <ℤ f k → IsFirstPositive (map f (order_of push n))
  first_positive Up k h l z p = first_in (map f (order_of Up n)) (k - 1) (let e = length_up in omega arith) (zero_before_up k h l z) (subst (λ (y : ℤ). pos 0 <ℤ y) (sym (value_up k h l)) p)
  first_positive Down k h l z p = first_in (map f (order_of Down n)) (n - k) (let e = length_down in omega arith) (zero_before_down k h l z) (subst (λ (y : ℤ). pos 0 <ℤ y) (sym (value_down k h l)) p)

  pub not_first_positive : (push : Push) (k : ℕ) → 1 ≤ k → k ≤ n → ((j : ℕ) → 1 ≤ j → j ≤ n → Comes push j k → f j ≡ pos 0) → f k <ℤ pos 0 → ¬ (IsFirstPositive (map f (order_of push n)))
  not_first_positive Up k h l z p = not_first_in (map f (order_of Up n)) (k - 1) (let e = length_up in omega arith) (zero_before_up k h l z) (subst (λ (y : ℤ). y <ℤ pos 0) (sym (value_up k h l)) p)
  not_first_positive Down k h l z p = not_first_in (map f (order_of Down n)) (n - k) (let e = length_down in omega arith) (zero_before_down k h l z) (subst (λ (y : ℤ). y <ℤ pos 0) (sym (value_down k h l)) p)

-- ---- the coefficients

pick_same : {X : Type 0} (k a : ℕ) (x y : X) → k ≡ a → cond (k == a) x y ≡ x
pick_same k a x y e = by (k == a) refl
  where
    no : (k == a) ≡ false → ⊥
    no f = absurd (grind (arith, nat_tests))

    by : (b : Bool) → (k == a) ≡ b → cond b x y ≡ x
    by true f = refl
    by false f = absurd (no f)

pick_other : {X : Type 0} (k a : ℕ) (x y : X) → k ≢ a → cond (k == a) x y ≡ y
pick_other k a x y ne = by (k == a) refl
  where
    same : (k == a) ≡ true → k ≡ a
    same f = grind (arith, nat_tests)

    by : (b : Bool) → (k == a) ≡ b → cond b x y ≡ y
    by true f = absurd (ne (same f))
    by false f = refl

-- a share that is 0, or of another point
pass : (k a : ℕ) (l z : ℤ) → (k ≡ a → l ≡ pos 0) → z ≡ pos 0 → cond (k == a) (neg_ℤ l) z ≡ pos 0
pass k a l z h e = by (k == a) refl
  where
    same : (k == a) ≡ true → k ≡ a
    same f = grind (arith, nat_tests)

    by : (b : Bool) → (k == a) ≡ b → cond b (neg_ℤ l) z ≡ pos 0
    by true f = ap neg_ℤ (h (same f))
    by false f = e

module _ (size : ℤ) (a b c d : ℕ × ℤ) (p : ℕ) where
  pub coefficient_zero : (k : ℕ) → k ≢ p → (k ≡ a.0 → a.1 ≡ pos 0) → (k ≡ b.0 → b.1 ≡ pos 0) → (k ≡ c.0 → c.1 ≡ pos 0) → (k ≡ d.0 → d.1 ≡ pos 0) → push_coefficient size a b c d p k ≡ pos 0
  coefficient_zero k ne ha hb hc hd =
      pick_other k p _ _ ne ∙ pass k a.0 a.1 _ ha (pass k b.0 b.1 _ hb (pass k c.0 c.1 _ hc (pass k d.0 d.1 _ hd refl)))

  pub coefficient_point : push_coefficient size a b c d p p ≡ size
  coefficient_point = pick_same p p _ _ refl

  pub coefficient_first : a.0 ≢ p → push_coefficient size a b c d p a.0 ≡ neg_ℤ a.1
  coefficient_first ne = pick_other a.0 p _ _ ne ∙ pick_same a.0 a.0 _ _ refl

  pub coefficient_second : b.0 ≢ p → b.0 ≢ a.0 → push_coefficient size a b c d p b.0 ≡ neg_ℤ b.1
  coefficient_second ne na = pick_other b.0 p _ _ ne ∙ pick_other b.0 a.0 _ _ na ∙ pick_same b.0 b.0 _ _ refl

  pub coefficient_third : c.0 ≢ p → c.0 ≢ a.0 → c.0 ≢ b.0 → push_coefficient size a b c d p c.0 ≡ neg_ℤ c.1
  coefficient_third ne na nb = pick_other c.0 p _ _ ne ∙ pick_other c.0 a.0 _ _ na ∙ pick_other c.0 b.0 _ _ nb ∙ pick_same c.0 c.0 _ _ refl

  pub coefficient_fourth : d.0 ≢ p → d.0 ≢ a.0 → d.0 ≢ b.0 → d.0 ≢ c.0 → push_coefficient size a b c d p d.0 ≡ neg_ℤ d.1
  coefficient_fourth ne na nb nc = pick_other d.0 p _ _ ne ∙ pick_other d.0 a.0 _ _ na ∙ pick_other d.0 b.0 _ _ nb ∙ pick_other d.0 c.0 _ _ nc ∙ pick_same d.0 d.0 _ _ refl
