-- The search for the first wide number.
use Rattle.std.proofs.Common.{◌≡◌, ℕ, zero, suc, ◌+◌, ◌/◌, ◌^◌, ◌<◌, ◌≤◌, ◌⊎◌, inl, inr, not, eqb, leb, Bool, true, false, cond, refl, ap, ◌∙◌, arith, ℤ, pos, List, [], ◌∷◌, length, get_or, map, drop, Some, None, unsigned_abs, nat_le}
use Rattle.std.proofs.lemmas.Bool.Decides.{nat_tests}
use Rattle.std.proofs.lemmas.Nat.{pow_pos}
use Rattle.std.proofs.Math.Nat.{div-lt_iff_lt-mul}
use Rattle.std.proofs.lemmas.List.{at_drop_more}
use Rattle.ntfe_model.specs.Solver.{first_wide, line_numbers}
use Rattle.strict_solver.specs.declared.place.Place.{Place}
use Rattle.strict_solver.specs.declared.place.Place.TheVariants.{Row, Column}
use Rattle.strict_solver.specs.Rows.{number, number_at, line_in}

pub zero_not_wide : (width : ℕ) → nat_le (2 ^ width) 0 ≡ false
zero_not_wide width = let p = pow_pos width in grind (arith, nat_tests)

pub narrow_first : (width : ℕ) (z : ℤ) (zs : List ℤ) → nat_le (2 ^ width) (unsigned_abs z) ≡ false → first_wide width (z ∷ zs) ≡ first_wide width zs
narrow_first width z zs e = ap (λ b. cond b (Some z) (first_wide width zs)) e

pub wide_first : (width : ℕ) (z : ℤ) (zs : List ℤ) → nat_le (2 ^ width) (unsigned_abs z) ≡ true → first_wide width (z ∷ zs) ≡ Some z
wide_first width z zs e = ap (λ b. cond b (Some z) (first_wide width zs)) e

module _ (width : ℕ) (row : List ℤ) (places : List Place) (i : ℕ) (l : i < length places) where
  next : first_wide width (map (number_at row) (drop i places)) ≡ first_wide width (number_at row (get_or places i (Row 0)) ∷ map (number_at row) (drop (i + 1) places))
  next = at_drop_more (λ ps. first_wide width (map (number_at row) ps)) places i (Row 0) l

  pub narrow_column : (p : ℕ) → get_or places i (Row 0) ≡ Column p → nat_le (2 ^ width) (unsigned_abs (number row p)) ≡ false
      → first_wide width (map (number_at row) (drop i places)) ≡ first_wide width (map (number_at row) (drop (i + 1) places))
  narrow_column p e f =
      next ∙ ap (λ o. first_wide width (number_at row o ∷ map (number_at row) (drop (i + 1) places))) e ∙ narrow_first width (number row p) _ f

  pub wide_column : (p : ℕ) → get_or places i (Row 0) ≡ Column p → nat_le (2 ^ width) (unsigned_abs (number row p)) ≡ true
      → first_wide width (map (number_at row) (drop i places)) ≡ Some (number row p)
  wide_column p e f =
      next ∙ ap (λ o. first_wide width (number_at row o ∷ map (number_at row) (drop (i + 1) places))) e ∙ wide_first width (number row p) _ f

  pub skipped_row : (r : ℕ) → get_or places i (Row 0) ≡ Row r → first_wide width (map (number_at row) (drop i places)) ≡ first_wide width (map (number_at row) (drop (i + 1) places))
  skipped_row r e =
      next ∙ ap (λ o. first_wide width (number_at row o ∷ map (number_at row) (drop (i + 1) places))) e ∙ narrow_first width (pos 0) _ (zero_not_wide width)

pub line_first_wide : (width : ℕ) (places : List Place) (row : List ℤ) → nat_le (2 ^ width) (unsigned_abs (number row 0)) ≡ false → nat_le (2 ^ width) (unsigned_abs (number row 1)) ≡ false
    → first_wide width (line_numbers (line_in places row)) ≡ first_wide width (map (number_at row) places)
line_first_wide width places row e f = narrow_first width (number row 0) (number row 1 ∷ map (number_at row) places) e ∙ narrow_first width (number row 1) (map (number_at row) places) f

-- where no number is wide
pub none_wide : (width : ℕ) (zs : List ℤ) → first_wide width zs ≡ None → (k : ℕ) → k < length zs → unsigned_abs (get_or zs k (pos 0)) < 2 ^ width
none_wide width [] e k l = absurd (omega arith)
none_wide width (z ∷ zs) e k l = by (nat_le (2 ^ width) (unsigned_abs z)) refl e k l (none_wide width zs)
  where
    by : (b : Bool) → nat_le (2 ^ width) (unsigned_abs z) ≡ b → cond b (Some z) (first_wide width zs) ≡ None → (k : ℕ) → k < suc (length zs)
        → (first_wide width zs ≡ None → (k : ℕ) → k < length zs → unsigned_abs (get_or zs k (pos 0)) < 2 ^ width) → unsigned_abs (get_or (z ∷ zs) k (pos 0)) < 2 ^ width
    by true f g k l rest = cc
    by false f g zero l rest = grind (arith, nat_tests)
    by false f g (suc k) l rest = rest g k (omega arith)

pub all_narrow : (width : ℕ) (zs : List ℤ) → ((k : ℕ) → k < length zs → unsigned_abs (get_or zs k (pos 0)) < 2 ^ width) → first_wide width zs ≡ None
all_narrow width [] h = refl
all_narrow width (z ∷ zs) h = narrow_first width z zs (not_wide (unsigned_abs z) (h 0 (omega arith))) ∙ all_narrow width zs (λ k l. h (suc k) (omega arith))
  where
    not_wide : (n : ℕ) → n < 2 ^ width → nat_le (2 ^ width) n ≡ false
    not_wide n l = grind (arith, nat_tests)

-- ---- the test of a number: shifted down by the width it is not 0
zero_quotient : (n m q : ℕ) → 0 < m → (q < 1 → n < m) → (n < m → q < 1) → not (eqb q 0) ≡ leb m n
zero_quotient n m q h f g = by (let c : (n < m) ⊎ (m ≤ n) = grind arith in c)
  where
    by : (n < m) ⊎ (m ≤ n) → not (eqb q 0) ≡ leb m n
    by (inl l) = let i = g l in grind (arith, nat_tests)
    by (inr l) = at (let c : (q < 1) ⊎ (0 < q) = grind arith in c)
      where
        at : (q < 1) ⊎ (0 < q) → not (eqb q 0) ≡ leb m n
        at (inl i) = let j = f i in absurd (omega arith)
        at (inr i) = grind (arith, nat_tests)

pub wide_shifted : (n w : ℕ) → not (eqb (n / 2 ^ w) 0) ≡ leb (2 ^ w) n
wide_shifted n w =
    let p = pow_pos w in
    let h = div-lt_iff_lt-mul {k = 2 ^ w} {x = n} {y = 1} p in
    zero_quotient n (2 ^ w) (n / 2 ^ w) p (λ l. let i = h.0 l in omega arith) (λ l. h.1 (omega arith))
