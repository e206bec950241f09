-- Small numbers in words of 64 bits.
use Rattle.std.proofs.Common.{◌≡◌, ℕ, ◌-◌, ◌*◌, ◌^◌, ◌<◌, ◌≤◌, sym, ap, ◌∙◌, arith, mul-le-mul, subst, Bool, true, false, not, T, ◌≤ℤ◌, ◌≢◌, ◌⊎◌, inl, inr, List, length, set, length-set, get_or-set_same, get_or-set_other, ℤ, pos, ◌+ℤ◌, ◌-ℤ◌, ◌*ℤ◌, ◌<ℤ◌, unsigned_abs, to_z, of_z, w64, FitsSigned}
use Rattle.std.specs.Bool.{MatchBool}
use Rattle.std.specs.Int.Signed.{lt_z, lt_z_yes, lt_z_no}
use Rattle.std.proofs.lemmas.Int.{ints, unsigned_abs-mul, fits_signed_from_abs}
use Rattle.strict_solver.specs.Rows.{number}
use Rattle.strict_solver.proofs.Rows.{number_past}
use Rattle.strict_solver.proofs.ShortRows.{word64}

small_product : (m n : ℕ) → m < 2 ^ 30 → n < 2 ^ 30 → m * n < 2 ^ 60
small_product m n h i = let l : m * n ≤ (2 ^ 30) * (2 ^ 30 - 1) = mul-le-mul (let a : m ≤ 2 ^ 30 = omega arith in a) (let b : n ≤ 2 ^ 30 - 1 = omega arith in b) in omega arith

pub product_size : (a b : ℤ) → unsigned_abs a < 2 ^ 30 → unsigned_abs b < 2 ^ 30 → unsigned_abs (a *ℤ b) < 2 ^ 60
product_size a b h i = let e = unsigned_abs-mul a b in let l = small_product (unsigned_abs a) (unsigned_abs b) h i in omega arith

pub product_word : (a b : ℤ) → unsigned_abs a < 2 ^ 30 → unsigned_abs b < 2 ^ 30 → to_z w64 (of_z w64 (to_z w64 (of_z w64 a) *ℤ to_z w64 (of_z w64 b))) ≡ a *ℤ b
product_word a b h i =
    (λ t. to_z w64 (of_z w64 (word64 a (let x : unsigned_abs a < 2 ^ 63 = omega arith in x) t *ℤ word64 b (let x : unsigned_abs b < 2 ^ 63 = omega arith in x) t)))
    ∙ word64 (a *ℤ b) (let s = product_size a b h i in omega arith)

-- differences and sums of what is well below the size of a word
pub difference_word : (x y : ℤ) → unsigned_abs x < 2 ^ 60 → unsigned_abs y < 2 ^ 60 → to_z w64 (of_z w64 (to_z w64 (of_z w64 x) -ℤ to_z w64 (of_z w64 y))) ≡ x -ℤ y
difference_word x y h i =
    (λ t. to_z w64 (of_z w64 (word64 x (let a : unsigned_abs x < 2 ^ 63 = omega arith in a) t -ℤ word64 y (let a : unsigned_abs y < 2 ^ 63 = omega arith in a) t)))
    ∙ word64 (x -ℤ y) (let a : unsigned_abs (x -ℤ y) < 2 ^ 63 = omega (arith, ints) in a)

module _ (c d p q : ℤ) (hc : unsigned_abs c < 2 ^ 30) (hd : unsigned_abs d < 2 ^ 30) (hp : unsigned_abs p < 2 ^ 60) (hq : unsigned_abs q < 2 ^ 60) where
  sum : to_z w64 (of_z w64 (to_z w64 (of_z w64 c) +ℤ to_z w64 (of_z w64 d))) ≡ c +ℤ d
  sum =
      (λ t. to_z w64 (of_z w64 (word64 c (let a : unsigned_abs c < 2 ^ 63 = omega arith in a) t +ℤ word64 d (let a : unsigned_abs d < 2 ^ 63 = omega arith in a) t)))
      ∙ word64 (c +ℤ d) (let a : unsigned_abs (c +ℤ d) < 2 ^ 63 = omega (arith, ints) in a)

  less : to_z w64 (of_z w64 (to_z w64 (of_z w64 c) +ℤ to_z w64 (of_z w64 d))) -ℤ to_z w64 (of_z w64 p) ≡ c +ℤ d -ℤ p
  less t = sum t -ℤ word64 p (let a : unsigned_abs p < 2 ^ 63 = omega arith in a) t

  less_word : to_z w64 (of_z w64 (to_z w64 (of_z w64 (to_z w64 (of_z w64 c) +ℤ to_z w64 (of_z w64 d))) -ℤ to_z w64 (of_z w64 p))) ≡ c +ℤ d -ℤ p
  less_word = ap (λ z. to_z w64 (of_z w64 z)) less ∙ word64 (c +ℤ d -ℤ p) (let a : unsigned_abs (c +ℤ d -ℤ p) < 2 ^ 63 = omega (arith, ints) in a)

  both : to_z w64 (of_z w64 (to_z w64 (of_z w64 (to_z w64 (of_z w64 c) +ℤ to_z w64 (of_z w64 d))) -ℤ to_z w64 (of_z w64 p))) -ℤ to_z w64 (of_z w64 q) ≡ c +ℤ d -ℤ p -ℤ q
  both t = less_word t -ℤ word64 q (let a : unsigned_abs q < 2 ^ 63 = omega arith in a) t

  pub fold_size : unsigned_abs (c +ℤ d -ℤ p -ℤ q) < 2 ^ 62
  fold_size = omega (arith, ints)

  pub fold_fits-first : FitsSigned w64 (to_z w64 (of_z w64 (to_z w64 (of_z w64 c) +ℤ to_z w64 (of_z w64 d))) -ℤ to_z w64 (of_z w64 p))
  fold_fits-first = subst (λ z. FitsSigned w64 z) (sym less) (fits_signed_from_abs w64 (c +ℤ d -ℤ p) (let a : unsigned_abs (c +ℤ d -ℤ p) < 2 ^ 63 = omega (arith, ints) in a))

  pub fold_fits : FitsSigned w64 (to_z w64 (of_z w64 (to_z w64 (of_z w64 (to_z w64 (of_z w64 c) +ℤ to_z w64 (of_z w64 d))) -ℤ to_z w64 (of_z w64 p))) -ℤ to_z w64 (of_z w64 q))
  fold_fits = subst (λ z. FitsSigned w64 z) (sym both) (fits_signed_from_abs w64 (c +ℤ d -ℤ p -ℤ q) (let a : unsigned_abs (c +ℤ d -ℤ p -ℤ q) < 2 ^ 63 = omega (arith, ints) in a))

  pub fold_word : to_z w64 (of_z w64 (to_z w64 (of_z w64 (to_z w64 (of_z w64 (to_z w64 (of_z w64 c) +ℤ to_z w64 (of_z w64 d))) -ℤ to_z w64 (of_z w64 p))) -ℤ to_z w64 (of_z w64 q))) ≡ c +ℤ d -ℤ p -ℤ q
  fold_word = ap (λ z. to_z w64 (of_z w64 z)) both ∙ word64 (c +ℤ d -ℤ p -ℤ q) (let a : unsigned_abs (c +ℤ d -ℤ p -ℤ q) < 2 ^ 63 = omega (arith, ints) in a)

-- a number that is written into a row of small ones
pub set_small : (row : List ℤ) (k : ℕ) (z : ℤ) → unsigned_abs z < 2 ^ 30 → ((j : ℕ) → unsigned_abs (number row j) < 2 ^ 30) → (j : ℕ) → unsigned_abs (number (set row k z) j) < 2 ^ 30
set_small row k z h i j = by (let c : (j ≡ k) ⊎ (j ≢ k) = grind arith in c) (let c : (k < length row) ⊎ (length row ≤ k) = grind arith in c)
  where
    by : (j ≡ k) ⊎ (j ≢ k) → (k < length row) ⊎ (length row ≤ k) → unsigned_abs (number (set row k z) j) < 2 ^ 30
    by (inl e) (inl l) = subst (λ v. unsigned_abs v < 2 ^ 30) (sym (ap (λ n. number (set row k z) n) e ∙ get_or-set_same row k z (pos 0) l)) h
    by (inl e) (inr l) = subst (λ v. unsigned_abs v < 2 ^ 30) (sym (number_past (set row k z) j (let a = length-set row k z in omega arith))) (omega (arith, ints))
    by (inr n) c = subst (λ v. unsigned_abs v < 2 ^ 30) (sym (get_or-set_other row k j z (pos 0) n)) (i j)

-- as a call sees a number that is passed to it
pub word30 : (z : ℤ) → unsigned_abs z < 2 ^ 30 → to_z w64 (of_z w64 z) ≡ z
word30 z h = word64 z (let a : unsigned_abs z < 2 ^ 63 = omega arith in a)

pub product_passed : (a b : ℤ) → unsigned_abs a < 2 ^ 30 → unsigned_abs b < 2 ^ 30 → to_z w64 (of_z w64 a) *ℤ to_z w64 (of_z w64 b) ≡ a *ℤ b
product_passed a b h i t = word30 a h t *ℤ word30 b i t

-- ---- tests
pub match_lt : (a b : ℤ) → MatchBool (lt_z a b) (a <ℤ b) (b ≤ℤ a)
match_lt a b = at (lt_z a b) (λ h. lt_z_yes h) (λ h. lt_z_no h)
  where
    at : (t : Bool) → (T t → a <ℤ b) → (T (not t) → b ≤ℤ a) → MatchBool t (a <ℤ b) (b ≤ℤ a)
    at true f g = f tt
    at false f g = g tt

pub match_map : (t : Bool) (P Q R S : Type 0) → (P → R) → (Q → S) → MatchBool t P Q → MatchBool t R S
match_map true P Q R S f g h = f h
match_map false P Q R S f g h = g h

pub below_match : (v d z : ℤ) → unsigned_abs v < 2 ^ 62 → unsigned_abs d < 2 ^ 30 → v ≡ z → MatchBool (lt_z (to_z w64 (of_z w64 v)) (to_z w64 (of_z w64 d))) ((z -ℤ d) <ℤ pos 0) (pos 0 ≤ℤ (z -ℤ d))
below_match v d z hv hd e =
    let P : Bool → Type 0 = λ t. MatchBool t ((z -ℤ d) <ℤ pos 0) (pos 0 ≤ℤ (z -ℤ d)) in
    subst P (λ i. lt_z (sym (word64 v (let a : unsigned_abs v < 2 ^ 63 = omega arith in a)) i) (sym (word30 d hd) i))
    (match_map (lt_z v d) (v <ℤ d) (d ≤ℤ v) ((z -ℤ d) <ℤ pos 0) (pos 0 ≤ℤ (z -ℤ d)) (λ h. (let a : (z -ℤ d) <ℤ pos 0 = omega (arith, ints) in a)) (λ h. (let a : pos 0 ≤ℤ (z -ℤ d) = omega (arith, ints) in a)) (match_lt v d))
