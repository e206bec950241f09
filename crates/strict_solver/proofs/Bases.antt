-- The set of basic slacks as a number: below 2 ^ rows, and never twice in the moving. Heights neither enter nor leave there, so
-- the slacks alone tell the sets of basic variables apart.
use Rattle.std.proofs.Common.{◌≡◌, ◌≢◌, ℕ, zero, suc, ◌+◌, ◌-◌, ◌*◌, ◌^◌, ◌<◌, ◌≤◌, ◌⊎◌, inl, inr, refl, sym, arith, subst, List, [], ◌∷◌, length, get_or, Some, None, Option}
use Rattle.std.proofs.lemmas.Nat.{pow_pos}
use Rattle.ntfe_model.specs.Solver.{Line}
use Rattle.strict_solver.proofs.Pivots.{IsTable, pivot-kept, pivot-basic}
use Rattle.strict_solver.proofs.Bland.{IsMoving, IsLoaded, IsBasic, row-of, no_return, moving-length, moving-keeps}

abbrev Lines : Type 0
Lines = List (Option Line)

abbrev pub basis_code : List (Option Line) → ℕ
basis_code [] = 0
basis_code (None ∷ s) = 2 * basis_code s
basis_code (Some r ∷ s) = 1 + 2 * basis_code s

-- of the variables from so many on
abbrev pub slack_code : ℕ → List (Option Line) → ℕ
slack_code zero s = basis_code s
slack_code (suc n) [] = 0
slack_code (suc n) (o ∷ s) = slack_code n s

-- 2 to the number of slacks
abbrev pub slack_sets : ℕ → List (Option Line) → ℕ
slack_sets columns s = 2 ^ (length s - columns)

double : (n : ℕ) → 2 ^ suc n ≡ 2 * 2 ^ n
double n = omega arith

basis_code-small : (s : Lines) → basis_code s < 2 ^ length s
basis_code-small [] = omega arith
basis_code-small (None ∷ s) = let h = basis_code-small s in let d = double (length s) in omega arith
basis_code-small (Some r ∷ s) = let h = basis_code-small s in let d = double (length s) in omega arith

pub slack_code-small : (columns : ℕ) (s : List (Option Line)) → slack_code columns s < slack_sets columns s
slack_code-small zero s = let e : length s ≡ length s - 0 = omega arith in subst (λ n. basis_code s < 2 ^ n) e (basis_code-small s)
slack_code-small (suc n) [] = pow_pos (0 - suc n)
slack_code-small (suc n) (o ∷ s) = let e : length s - n ≡ suc (length s) - suc n = omega arith in subst (λ k. slack_code n s < 2 ^ k) e (slack_code-small n s)

basis_code-same : (s t : Lines) → length s ≡ length t → basis_code s ≡ basis_code t → (z : ℕ) → IsBasic s z → IsBasic t z
basis_code-same [] t l e z b = let h = b.1 in cc
basis_code-same (o ∷ s) [] l e z b = absurd (omega arith)
basis_code-same (None ∷ s) (None ∷ t) l e zero b = let h = b.1 in cc
basis_code-same (None ∷ s) (None ∷ t) l e (suc z) b = basis_code-same s t (omega arith) (omega arith) z b
basis_code-same (Some r ∷ s) (Some q ∷ t) l e zero b = (q, refl)
basis_code-same (Some r ∷ s) (Some q ∷ t) l e (suc z) b = basis_code-same s t (omega arith) (omega arith) z b
basis_code-same (None ∷ s) (Some q ∷ t) l e z b = absurd (omega arith)
basis_code-same (Some r ∷ s) (None ∷ t) l e z b = absurd (omega arith)

slack_code-same : (columns : ℕ) (s t : Lines) → length s ≡ length t → slack_code columns s ≡ slack_code columns t → (z : ℕ) → columns ≤ z → IsBasic s z → IsBasic t z
slack_code-same zero s t l e z c b = basis_code-same s t l e z b
slack_code-same (suc n) [] t l e z c b = let h = b.1 in cc
slack_code-same (suc n) (o ∷ s) [] l e z c b = absurd (omega arith)
slack_code-same (suc n) (o ∷ s) (p ∷ t) l e zero c b = absurd (omega arith)
slack_code-same (suc n) (o ∷ s) (p ∷ t) l e (suc z) c b = slack_code-same n s t (omega arith) e z (omega arith) b

-- the basic heights stay the same
module _ (columns bound k : ℕ) (h : k < columns) where
  height-stays : (s : Lines) (ts : List (List (Option Line))) (t : Lines) → IsMoving columns bound s ts t → IsBasic s k → IsBasic t k
  height-stays = moving-keeps columns bound (λ r. IsBasic r k) (λ a c m b. pivot-kept m.x m.y a c m.is k b.0 b.1 (λ e. let l = (row-of columns m.x m.y a m.move).0 in omega arith))

  height-was : (s : Lines) (ts : List (List (Option Line))) (t : Lines) → IsMoving columns bound s ts t → IsBasic t k → IsBasic s k
  height-was s [] t m b = let P : Lines → Type 0 = λ r. IsBasic r k in subst P (sym m) b
  height-was s (r ∷ ts) t m b = let d = height-was r ts t m.1 b in by (pivot-basic m.0.x m.0.y s r m.0.is k d.0 d.1).1
    where
      by : (k ≡ m.0.y) ⊎ ((o : Line) × (get_or s k None ≡ Some o)) → IsBasic s k
      by (inl e) = absurd (let a = (row-of columns m.0.x m.0.y s m.0.move).1 in omega arith)
      by (inr d) = d

-- after one move or more the number is another
pub code_fresh : (columns bound : ℕ) (s r : List (Option Line)) (rs : List (List (Option Line))) (t : List (Option Line)) → IsTable s → columns ≤ length s → IsLoaded columns s
    → IsMoving columns bound s (r ∷ rs) t → slack_code columns s ≢ slack_code columns t
code_fresh columns bound s r rs t w c l m e = no_return columns bound s r rs t w c l m to from
  where
    same : length t ≡ length s
    same = moving-length columns bound s (r ∷ rs) t m

    to : (z : ℕ) → IsBasic s z → IsBasic t z
    to z b = by (let d : (z < columns) ⊎ (columns ≤ z) = grind arith in d)
      where
        by : (z < columns) ⊎ (columns ≤ z) → IsBasic t z
        by (inl h) = height-stays columns bound z h s (r ∷ rs) t m b
        by (inr h) = slack_code-same columns s t (sym same) e z h b

    from : (z : ℕ) → IsBasic t z → IsBasic s z
    from z b = by (let d : (z < columns) ⊎ (columns ≤ z) = grind arith in d)
      where
        by : (z < columns) ⊎ (columns ≤ z) → IsBasic s z
        by (inl h) = height-was columns bound z h s (r ∷ rs) t m b
        by (inr h) = slack_code-same columns t s same (sym e) z h b
