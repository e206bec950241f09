-- The factor of a fold: an exact quotient of coordinates.
use Rattle.std.proofs.Common.{◌≡◌, ◌≢◌, ℕ, zero, suc, ◌*◌, ◌<◌, ◌≤◌, refl, sym, ap, ◌∙◌, subst, arith, ℤ, pos, ◌+ℤ◌, ◌-ℤ◌, ◌*ℤ◌, List, [], ◌∷◌, get_or, unsigned_abs, w64, to_z, of_z, FitsSigned}
use Rattle.std.specs.Int.RustNames.{int_div, int_rem}
use Rattle.std.proofs.lemmas.Int.{ints, quot-rem, rem_below, unsigned_abs-mul, fits_signed_from_abs}
use Rattle.ntfe_nums.specs.Sizes.{AreWithin}
use Rattle.ntfe_nums.specs.Vectors.{Vector, numbers}
use Rattle.ntfe_nums.proofs.Ring.{Expression, ring}
use Rattle.ntfe_nums.proofs.Ring.Expression.{var, plus, minus, times}
use Rattle.ntfe_nums.proofs.Machine.{AreBounded, AreWithin-four, back, exact, fits, value-size}
use Rattle.ntfe_model.proofs.FoldSizes.{size_above, factor_size, factor_product, no_gap}
use Rattle.fold_rows.specs.Rows.{IsFactorAt, IsBalance}
use Rattle.ntfe_nums.proofs.Comparisons.{small_factor}

-- ---- exact quotients

-- a multiple of d divided by d
pub exact_quotient : (s d : ℤ) → d ≢ pos 0 → int_div (s *ℤ d) d ≡ s
exact_quotient s d h =
    let q = int_div (s *ℤ d) d in
    let r = int_rem (s *ℤ d) d in
    let e : (s -ℤ q) *ℤ d ≡ s *ℤ d -ℤ q *ℤ d = ring (s ∷ q ∷ d ∷ []) (times (minus (var 0) (var 1)) (var 2)) (minus (times (var 0) (var 2)) (times (var 1) (var 2))) refl in
    let f : (s -ℤ q) *ℤ d ≡ r = e ∙ rest (q *ℤ d) r (s *ℤ d) (quot-rem (s *ℤ d) d) in
    let z = small_factor (unsigned_abs (s -ℤ q)) (unsigned_abs d) (below _ _ _ (sym (unsigned_abs-mul (s -ℤ q) d) ∙ ap unsigned_abs f) (rem_below (s *ℤ d) d (size_above d h))) in
    same s q z
  where
    rest : (x y z : ℤ) → x +ℤ y ≡ z → z -ℤ x ≡ y
    rest x y z g = omega (arith, ints, g)

    below : (x y z : ℕ) → x ≡ y → y < z → x < z
    below x y z g k = omega (arith, g, k)

    same : (x y : ℤ) → unsigned_abs (x -ℤ y) ≡ 0 → y ≡ x
    same x y g = omega (arith, ints, g)

-- ---- in words of 64 bits

pub difference_fits : (b a : List ℤ) (i : ℕ) → AreWithin 1023 b → AreWithin 1023 a → FitsSigned w64 (to_z w64 (of_z w64 (get_or b i (pos 0))) -ℤ to_z w64 (of_z w64 (get_or a i (pos 0))))
difference_fits b a i k h = fits w64 (get_or b i (pos 0) ∷ get_or a i (pos 0) ∷ []) (1023 ∷ 1023 ∷ []) (AreWithin-four 1023 b k i, (AreWithin-four 1023 a h i, tt)) (minus (var 0) (var 1)) refl

-- coordinates with equal words are equal
pub word_once : (a b : List ℤ) (i : ℕ) → AreWithin 1023 a → AreWithin 1023 b → of_z w64 (get_or a i (pos 0)) ≡ of_z w64 (get_or b i (pos 0)) → get_or a i (pos 0) ≡ get_or b i (pos 0)
word_once a b i h k e = sym (back w64 (get_or a i (pos 0)) 1023 (AreWithin-four 1023 a h i) (omega arith)) ∙ ap (to_z w64) e ∙ back w64 (get_or b i (pos 0)) 1023 (AreWithin-four 1023 b k i) (omega arith)

abbrev vars : List ℤ → List ℤ → List ℤ → List ℤ → ℕ → List ℤ
vars a b c d i = get_or a i (pos 0) ∷ get_or b i (pos 0) ∷ get_or c i (pos 0) ∷ get_or d i (pos 0) ∷ []

abbrev bounds : List ℕ
bounds = 1023 ∷ 1023 ∷ 1023 ∷ 1023 ∷ []

abbrev topE : Expression
topE = plus (minus (var 2) (var 0)) (minus (var 3) (var 0))

abbrev lowE : Expression
lowE = minus (var 1) (var 0)

module _ (a b c d : List ℤ) (i : ℕ) (h : AreWithin 1023 a) (k : AreWithin 1023 b) (l : AreWithin 1023 c) (m : AreWithin 1023 d) (ne : get_or a i (pos 0) ≢ get_or b i (pos 0)) where
  abbrev word : ℤ → ℤ
  word z = to_z w64 (of_z w64 z)

  abbrev at : List ℤ → ℤ
  at xs = get_or xs i (pos 0)

  abbrev top : ℤ
  top = at c -ℤ at a +ℤ (at d -ℤ at a)

  abbrev low : ℤ
  low = at b -ℤ at a

  bounded : AreBounded (vars a b c d i) bounds
  bounded = (AreWithin-four 1023 a h i, (AreWithin-four 1023 b k i, (AreWithin-four 1023 c l i, (AreWithin-four 1023 d m i, tt))))

  pub top_fits : FitsSigned w64 (word (word (at c) -ℤ word (at a)) +ℤ word (word (at d) -ℤ word (at a)))
  top_fits = fits w64 (vars a b c d i) bounds bounded topE refl

  top_word : word (word (word (at c) -ℤ word (at a)) +ℤ word (word (at d) -ℤ word (at a))) ≡ top
  top_word = exact w64 (vars a b c d i) bounds bounded topE refl

  low_word : word (word (at b) -ℤ word (at a)) ≡ low
  low_word = exact w64 (vars a b c d i) bounds bounded lowE refl

  top_small : unsigned_abs top ≤ 4092
  top_small = value-size (vars a b c d i) bounds topE bounded

  low_small : unsigned_abs low ≤ 2046
  low_small = value-size (vars a b c d i) bounds lowE bounded

  gap : low ≢ pos 0
  gap = no_gap (at a) (at b) ne

  quotient : (n : ℤ) → IsFactorAt a b c d i n → int_div top low ≡ n
  quotient n e = ap (λ z. int_div z low) (factor_product (at a) (at b) (at c) (at d) n e) ∙ exact_quotient n low gap

  factor_small : (n : ℤ) → IsFactorAt a b c d i n → unsigned_abs n ≤ 4092
  factor_small n e = let f = factor_size n low top gap (factor_product (at a) (at b) (at c) (at d) n e) in let t = top_small in omega (arith, f, t)

  low_bits : 0 < of_z w64 (word (at b) -ℤ word (at a))
  low_bits = from (of_z w64 (word (at b) -ℤ word (at a))) refl
    where
      from : (n : ℕ) → of_z w64 (word (at b) -ℤ word (at a)) ≡ n → 0 < of_z w64 (word (at b) -ℤ word (at a))
      from zero e = absurd (gap (sym low_word ∙ ap (to_z w64) e))
      from (suc n) e = omega (arith, e)

  module _ (s : (n : ℤ) × IsFactorAt a b c d i n) where
    quotient_word : int_div (word (word (word (at c) -ℤ word (at a)) +ℤ word (word (at d) -ℤ word (at a)))) (word (word (at b) -ℤ word (at a))) ≡ s.0
    quotient_word = (λ t. int_div (top_word t) (low_word t)) ∙ quotient s.0 s.1

    pub quotient_fits : (0 < of_z w64 (word (at b) -ℤ word (at a)))
        × FitsSigned w64 (int_div (word (word (word (at c) -ℤ word (at a)) +ℤ word (word (at d) -ℤ word (at a)))) (word (word (at b) -ℤ word (at a))))
    quotient_fits = (
      low_bits,
      (let P : ℤ → Type 0 = FitsSigned w64 in let f = factor_small s.0 s.1 in subst P (sym quotient_word) (fits_signed_from_abs w64 s.0 (omega (arith, f)))),
    )

    pub quotient_is : word (int_div (word (word (word (at c) -ℤ word (at a)) +ℤ word (word (at d) -ℤ word (at a)))) (word (word (at b) -ℤ word (at a)))) ≡ s.0
    quotient_is = ap word quotient_word ∙ back w64 s.0 4092 (factor_small s.0 s.1) (omega arith)

    pub quotient_only : (n : ℤ) → IsFactorAt a b c d i n → s.0 ≡ n
    quotient_only n e = sym (quotient s.0 s.1) ∙ quotient n e

    pub quotient_small : unsigned_abs s.0 ≤ 4092
    quotient_small = factor_small s.0 s.1

-- ---- the four coordinates

pub balance_at : (a b c d : Vector) (n : ℤ) (ps qs rs ss : List ℤ) (i : ℕ) → ps ≡ numbers a → qs ≡ numbers b → rs ≡ numbers c → ss ≡ numbers d → i < 4 → IsBalance a b c d n → IsFactorAt ps qs rs ss i n
balance_at a b c d n ps qs rs ss i p q r s l e =
    let P : List ℤ × List ℤ × List ℤ × List ℤ → Type 0 = λ t. IsFactorAt t.0 t.1 t.2 t.3 i n in
    subst P (λ t. (sym p t, sym q t, sym r t, sym s t)) (at i l)
  where
    at : (j : ℕ) → j < 4 → IsFactorAt (numbers a) (numbers b) (numbers c) (numbers d) j n
    at zero m = ap (λ v. v.x1) e
    at (suc zero) m = ap (λ v. v.x2) e
    at (suc (suc zero)) m = ap (λ v. v.x3) e
    at (suc (suc (suc zero))) m = ap (λ v. v.x4) e
    at (suc (suc (suc (suc j)))) m = absurd (omega (arith, m))

-- lists that agree in four places are the coordinates of one vector
pub vectors_same : (a b : Vector) (ps qs : List ℤ) → ps ≡ numbers a → qs ≡ numbers b → ((j : ℕ) → j < 4 → get_or ps j (pos 0) ≡ get_or qs j (pos 0)) → a ≡ b
vectors_same a b ps qs p q f =
    let g : (j : ℕ) → j < 4 → get_or (numbers a) j (pos 0) ≡ get_or (numbers b) j (pos 0) = (λ j l. ap (λ xs. get_or xs j (pos 0)) (sym p) ∙ f j l ∙ ap (λ xs. get_or xs j (pos 0)) q) in
    let e1 = g 0 (omega arith) in
    let e2 = g 1 (omega arith) in
    let e3 = g 2 (omega arith) in
    let e4 = g 3 (omega arith) in
    λ t. record { x1 = e1 t; x2 = e2 t; x3 = e3 t; x4 = e4 t }
