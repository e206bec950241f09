-- Keys as numbers: a greater key has a greater number, so a listing that settles its least key comes to an end.
use Rattle.std.proofs.Common.{◌≡◌, ℕ, zero, suc, ◌+◌, ◌*◌, ◌<◌, ◌≤◌, ◌⊎◌, inl, inr, refl, ap, subst, arith, List, [], ◌∷◌, length, min}
use Rattle.std.specs.Prelude.{Contains, All}
use Rattle.std.specs.Ordering.{nat_cmp, ordering_then}
use Rattle.std.specs.declared.cmp.Ordering.{Ordering}
use Rattle.std.specs.declared.cmp.Ordering.TheVariants.{Less, Equal, Greater}
use Rattle.std.specs.Cmp.{ranked}
use Rattle.std.specs.Cmp.Lexicographic.{slice_cmp}
use Rattle.std.proofs.lemmas.List.Elements.{All-head, All-tail}
use Rattle.ntfe_model.specs.Lists.{IsBelow}
use Rattle.ntfe_model.proofs.Listings.{Contains-here, Contains-there, Contains-cases, Contains-none}
use Rattle.steal_workers.specs.Boards.{key_base, key_power, key_value, least_value}

-- ---- bounds

digit_fits : (k m p v : ℕ) → v < p → k + 2 ≤ m → (k + 1) * p + v < m * p
digit_fits k m p v l h = next (monotone (k + 2) m p h)
  where
    monotone : (a b c : ℕ) → a ≤ b → a * c ≤ b * c
    monotone zero b c q = omega arith
    monotone (suc a) zero c q = absurd (omega (arith, q))
    monotone (suc a) (suc b) c q = let r = monotone a b c (omega (arith, q)) in omega (arith, r)

    next : (k + 2) * p ≤ m * p → (k + 1) * p + v < m * p
    next q = omega (arith, l, q)

pub power_positive : (n : ℕ) → 0 < key_power n
power_positive zero = omega arith
power_positive (suc n) = let r = power_positive n in omega (arith, r)

pub value_small : (n : ℕ) (ks : List ℕ) → All (λ k. k + 2 ≤ key_base) ks → key_value n ks < key_power n
value_small zero ks a = omega arith
value_small (suc n) [] a = power_positive (suc n)
value_small (suc n) (k ∷ ks) a =
    digit_fits k key_base (key_power n) (key_value n ks) (value_small n ks (All-tail (λ j. j + 2 ≤ key_base) k ks a)) (All-head (λ j. j + 2 ≤ key_base) k ks a)

-- ---- order

-- a greater first digit makes a greater number, whatever follows
first_decides : (x y p v w : ℕ) → v < p → x < y → (x + 1) * p + v < (y + 1) * p + w
first_decides x y p v w l h = let r : (x + 1) * p + v < (y + 1) * p = digit_fits x (y + 1) p v l (omega arith) in omega (arith, r)

pub value_rises : (n : ℕ) (j k : List ℕ) → length j ≤ n → length k ≤ n → All (λ m. m + 2 ≤ key_base) j → All (λ m. m + 2 ≤ key_base) k → IsBelow j k → key_value n j < key_value n k
value_rises n [] [] l m a b h = cc
value_rises zero [] (y ∷ ys) l m a b h = absurd (omega (arith, m))
value_rises (suc n) [] (y ∷ ys) l m a b h = let r = power_positive n in positive y (key_power n) (key_value n ys) r
  where
    positive : (x p v : ℕ) → 0 < p → 0 < (x + 1) * p + v
    positive zero p v q = omega (arith, q)
    positive (suc x) p v q = let r = positive x p v q in omega (arith, q, r)
value_rises n (x ∷ xs) [] l m a b h = cc
value_rises zero (x ∷ xs) (y ∷ ys) l m a b h = absurd (omega (arith, l))
value_rises (suc n) (x ∷ xs) (y ∷ ys) l m a b h =
    by (nat_cmp x y) refl (value_rises n xs ys (omega (arith, l)) (omega (arith, m)) (All-tail (λ i. i + 2 ≤ key_base) x xs a) (All-tail (λ i. i + 2 ≤ key_base) y ys b)) h
  where
    small : key_value n xs < key_power n
    small = value_small n xs (All-tail (λ i. i + 2 ≤ key_base) x xs a)

    by : (r : Ordering) → r ≡ nat_cmp x y → (IsBelow xs ys → key_value n xs < key_value n ys) → ordering_then r (slice_cmp nat_cmp xs ys) ≡ Less → key_value (suc n) (x ∷ xs) < key_value (suc n) (y ∷ ys)
    by Less q rest f = first_decides x y (key_power n) (key_value n xs) (key_value n ys) small (ranked x y Less q)
    by Equal q rest f =
        let e : x ≡ y = ranked x y Equal q in
        let P : ℕ → Type 0 = λ i. key_value (suc n) (x ∷ xs) < (i + 1) * key_power n + key_value n ys in
        subst P e (more ((x + 1) * key_power n) (key_value n xs) (key_value n ys) (rest f))
      where
        more : (s v w : ℕ) → v < w → s + v < s + w
        more s v w l = omega (arith, l)
    by Greater q rest f = cc

-- ---- the least of the keys

pub least_most : (n : ℕ) (ks : List (List ℕ)) (k : List ℕ) → Contains ks k → least_value n ks ≤ key_value n k
least_most n [] k c = Contains-none k c
least_most n (j ∷ ks) k c = by (least_most n ks k) (Contains-cases k j ks c)
  where
    by : (Contains ks k → least_value n ks ≤ key_value n k) → (k ≡ j) ⊎ Contains ks k → least_value n (j ∷ ks) ≤ key_value n k
    by rest (inl e) = let q = ap (key_value n) e in first (key_value n j) (least_value n ks) (key_value n k) q
      where
        first : (u v w : ℕ) → w ≡ u → min u v ≤ w
        first u v w q = grind (arith, q)
    by rest (inr d) = let r = rest d in second (key_value n j) (least_value n ks) (key_value n k) r
      where
        second : (u v w : ℕ) → v ≤ w → min u v ≤ w
        second u v w q = grind (arith, q)

pub least_above : (n v : ℕ) (ks : List (List ℕ)) → v < key_power n → ((k : List ℕ) → Contains ks k → v < key_value n k) → v < least_value n ks
least_above n v [] l h = l
least_above n v (k ∷ ks) l h = both (key_value n k) (least_value n ks) (h k (Contains-here k k ks refl)) (least_above n v ks l (λ j c. h j (Contains-there j k ks c)))
  where
    both : (u w : ℕ) → v < u → v < w → v < min u w
    both u w p q = grind (arith, p, q)

pub least_bound : (n : ℕ) (ks : List (List ℕ)) → least_value n ks ≤ key_power n
least_bound n [] = omega arith
least_bound n (k ∷ ks) = let r = least_bound n ks in either (key_value n k) (least_value n ks) (key_power n) r
  where
    either : (u v w : ℕ) → v ≤ w → min u v ≤ w
    either u v w q = grind (arith, q)
