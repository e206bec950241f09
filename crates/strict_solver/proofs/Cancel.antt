-- The rows times the multipliers of an infeasible answer cancel, coefficient by coefficient.
use Rattle.std.proofs.Common.{◌≡◌, ℕ, zero, suc, ◌<◌, ◌≤◌, ◌⊎◌, inl, inr, refl, sym, ap, ◌∙◌, arith, ℤ, pos, ◌+ℤ◌, List, [], ◌∷◌, set, replicate, length, get_or, length-set, Option}
use Rattle.std.proofs.lemmas.Int.{ints}
use Rattle.std.proofs.lemmas.List.{length-replicate, get_or_past}
use Rattle.ntfe_model.specs.Solver.{IsInfeasible}
use Rattle.ntfe_nums.proofs.Ring.{product_zero, product_one}
use Rattle.strict_solver.specs.Equations.{combination}
use Rattle.strict_solver.proofs.Runs.{AreRows}
use Rattle.strict_solver.proofs.Infeasible.{weighted, infeasible-cancels}

combination-nothing : (es : List ℤ) (n : ℕ) → combination es (replicate n (pos 0)) ≡ pos 0
combination-nothing [] n = refl
combination-nothing (e ∷ es) zero = refl
combination-nothing (e ∷ es) (suc n) = (λ i. product_zero e i +ℤ combination-nothing es n i)

combination-unit : (es : List ℤ) (n k : ℕ) → length es ≤ n → combination es (set (replicate n (pos 0)) k (pos 1)) ≡ get_or es k (pos 0)
combination-unit [] n k h = refl
combination-unit (e ∷ es) zero k h = absurd (omega arith)
combination-unit (e ∷ es) (suc n) zero h = let a = product_one e in let b = combination-nothing es n in omega (arith, ints)
combination-unit (e ∷ es) (suc n) (suc k) h = let a = product_zero e in let b = combination-unit es n k (omega arith) in omega (arith, ints)

-- the coefficients of each height cancel
pub infeasible-coefficients : (columns : ℕ) (rs : List (List ℤ)) (width : Option ℕ) (ms : List (ℕ × ℤ)) → AreRows columns rs → IsInfeasible columns rs width ms → (k : ℕ) → weighted ms (λ j. get_or (get_or rs j []) k (pos 0)) ≡ pos 0
infeasible-coefficients columns rs width ms w f k =
    let unit : List ℤ = set (replicate columns (pos 0)) k (pos 1) in
    ap (weighted ms) (λ i j. sym (combination-unit (get_or rs j []) columns k (short j (let c : (j < length rs) ⊎ (length rs ≤ j) = grind arith in c))) i)
    ∙ infeasible-cancels columns rs width ms w f unit (length-set (replicate columns (pos 0)) k (pos 1) ∙ length-replicate columns (pos 0))
  where
    short : (j : ℕ) → (j < length rs) ⊎ (length rs ≤ j) → length (get_or rs j []) ≤ columns
    short j (inl h) = let e = w j h in omega arith
    short j (inr h) = let e = ap (λ (l : List ℤ). length l) (get_or_past rs j [] h) in empty (length (get_or rs j [])) e
      where
        empty : (n : ℕ) → n ≡ 0 → n ≤ columns
        empty n g = omega arith
