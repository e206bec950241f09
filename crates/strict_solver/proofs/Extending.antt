-- A stem that goes on with several rows.
use Rattle.std.proofs.Common.{◌≡◌, ℕ, zero, suc, ◌+◌, ◌<◌, ◌≤◌, refl, sym, ap, ◌∙◌, subst, arith, ℤ, pos, List, [], ◌∷◌, ◌++◌, map, take, drop, length, get_or, None}
use Rattle.std.proofs.lemmas.List.{map-append}
use Rattle.ntfe_model.specs.declared.nogood.Fold.{Fold}
use Rattle.ntfe_model.specs.Solver.{fold_row, IsInfeasible}
use Rattle.strict_solver.specs.Solving.{AreMultipliers}
use Rattle.strict_solver.proofs.Runs.{AreRows}
use Rattle.strict_solver.proofs.Outcome.{are_rows}
use Rattle.strict_solver.proofs.Going.{still-infeasible}
use Rattle.strict_solver.proofs.Meaning.{cancelling}

-- one more from the front
pub take_more : (fs : List Fold) (k : ℕ) (d : Fold) → k < length fs → take (k + 1) fs ≡ take k fs ++ get_or fs k d ∷ []
take_more [] k d l = absurd (omega arith)
take_more (f ∷ fs) zero d l = refl
take_more (f ∷ fs) (suc k) d l = ap (λ n. take n (f ∷ fs)) (let e : suc k + 1 ≡ suc (k + 1) = omega arith in e) ∙ ap (λ gs. f ∷ gs) (take_more fs k d (omega arith))

pub take_all : (fs : List Fold) (n : ℕ) → length fs ≤ n → take n fs ≡ fs
take_all [] zero l = refl
take_all [] (suc n) l = refl
take_all (f ∷ fs) zero l = absurd (omega arith)
take_all (f ∷ fs) (suc n) l = ap (λ gs. f ∷ gs) (take_all fs n (omega arith))

take_rest : (fs : List Fold) (n : ℕ) → take n fs ++ drop n fs ≡ fs
take_rest fs zero = refl
take_rest [] (suc n) = refl
take_rest (f ∷ fs) (suc n) = ap (λ gs. f ∷ gs) (take_rest fs n)

-- rows that cancel cancel with more rows
pub cancel_more : (m n : ℕ) (fs : List Fold) (k : ℕ) (d : Fold) (ms : List (ℕ × ℤ)) → m ≡ n → k < length fs → IsInfeasible m (map (fold_row m) (take k fs ++ get_or fs k d ∷ [])) None ms → AreMultipliers n (map (fold_row n) fs) ms
cancel_more m n fs k d ms e l h =
    let I : List Fold → Type 0 = λ gs. IsInfeasible m (map (fold_row m) gs) None ms in
    let J : List (List ℤ) → Type 0 = λ rs. IsInfeasible m rs None ms in
    let M : ℕ → Type 0 = λ j. AreMultipliers j (map (fold_row j) fs) ms in
    let R : List (List ℤ) → Type 0 = λ rs. AreRows m rs in
    let front = take (k + 1) fs in
    let rest = drop (k + 1) fs in
    let whole : map (fold_row m) (take (k + 1) fs) ++ map (fold_row m) (drop (k + 1) fs) ≡ map (fold_row m) fs = sym (map-append (fold_row m) (take (k + 1) fs) (drop (k + 1) fs)) ∙ ap (map (fold_row m)) (take_rest fs (k + 1)) in
    subst M e (cancelling m fs None ms (subst J whole (still-infeasible m (map (fold_row m) front) (map (fold_row m) rest) (subst R (sym whole) (are_rows m fs)) ms (subst I (sym (take_more fs k d l)) h))))

abbrev pub no_fold : Fold
no_fold = record { a = 0; b = 0; c = 0; d = 0; alpha = pos 0; beta = pos 0 }
