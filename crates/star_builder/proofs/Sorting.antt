-- Four numbers by rising size: what holds in every order of them holds in this one.
use Rattle.std.proofs.Common.{◌≢◌, ℕ, ◌<◌, ⊎_elim}
use Rattle.ntfe_nums.proofs.Signs.{two_orders}

module _ (P : ℕ → ℕ → ℕ → ℕ → Type 0)
    (first : (a b c d : ℕ) → P a b c d → P b a c d) (middle : (a b c d : ℕ) → P a b c d → P a c b d) (last : (a b c d : ℕ) → P a b c d → P a b d c)
    (apart : (a b c d : ℕ) → P a b c d → c ≢ d) where
  apart_middle : (a b c d : ℕ) → P a b c d → b ≢ d
  apart_middle a b c d h = apart a c b d (middle a b c d h)

  apart_first : (a b c d : ℕ) → P a b c d → a ≢ d
  apart_first a b c d h = apart_middle b a c d (first a b c d h)

  -- the fourth goes to its place
  fourth : (a b c d : ℕ) → a < b → b < c → P a b c d → (i : ℕ) × (j : ℕ) × (k : ℕ) × (l : ℕ) × (i < j) × (j < k) × (k < l) × P i j k l
  fourth a b c d ab bc h =
      ⊎_elim (λ cd. (a, b, c, d, ab, bc, cd, h))
      (λ dc. let h2 = last a b c d h in
      ⊎_elim (λ bd. (a, b, d, c, ab, bd, dc, h2))
      (λ db. let h3 = middle a b d c h2 in
      ⊎_elim (λ ad. (a, d, b, c, ad, db, bc, h3)) (λ da. (d, a, b, c, da, ab, bc, first a d b c h3)) (two_orders a d (apart_first a b c d h)))
      (two_orders b d (apart_middle a b c d h)))
      (two_orders c d (apart a b c d h))

  -- the third goes to its place
  third : (a b c d : ℕ) → a < b → P a b c d → (i : ℕ) × (j : ℕ) × (k : ℕ) × (l : ℕ) × (i < j) × (j < k) × (k < l) × P i j k l
  third a b c d ab h =
      ⊎_elim (λ bc. fourth a b c d ab bc h)
      (λ cb. let h2 = middle a b c d h in
      ⊎_elim (λ ac. fourth a c b d ac cb h2) (λ ca. fourth c a b d ca ab (first a c b d h2)) (two_orders a c (apart_first a b d c (last a b c d h))))
      (two_orders b c (apart_middle a b d c (last a b c d h)))

  pub by_size : (a b c d : ℕ) → P a b c d → (i : ℕ) × (j : ℕ) × (k : ℕ) × (l : ℕ) × (i < j) × (j < k) × (k < l) × P i j k l
  by_size a b c d h =
      ⊎_elim (λ ab. third a b c d ab h) (λ ba. third b a c d ba (first a b c d h)) (two_orders a b (apart_first a c d b (last a c b d (middle a b c d h))))
