-- A run of moves has fewer steps than there are sets of slacks.
use Rattle.std.proofs.Common.{◌≡◌, ◌≢◌, ℕ, suc, ◌-◌, ◌^◌, ◌<◌, ◌≤◌, Bool, true, false, ◌||◌, eqb, refl, sym, ap, subst, arith, List, [], ◌∷◌, length, Option}
use Rattle.std.specs.List.{IsDistinct, AllByRecursion, list_any}
use Rattle.std.proofs.lemmas.Bool.Decides.{nat_tests}
use Rattle.std.proofs.lemmas.Map.Steps.{length-le_from_distinct_below}
use Rattle.ntfe_model.specs.Solver.{Line}
use Rattle.strict_solver.proofs.Pivots.{IsTable}
use Rattle.strict_solver.proofs.Bland.{IsMovingStep, IsMoving, IsLoaded, step-table, step-loaded}
use Rattle.strict_solver.proofs.Bases.{slack_code, slack_sets, slack_code-small, code_fresh}

abbrev Lines : Type 0
Lines = List (Option Line)

abbrev pub codes : ℕ → List (List (Option Line)) → List ℕ
codes columns [] = []
codes columns (s ∷ ss) = slack_code columns s ∷ codes columns ss

one_more : (columns bound : ℕ) (u x : Lines) (us : List (List (Option Line))) (s r : Lines) → IsMoving columns bound u (x ∷ us) s → IsMovingStep columns bound s r → (ws : List (List (Option Line))) × IsMoving columns bound u (x ∷ ws) r
one_more columns bound u x [] s r m k = (r ∷ [], (m.0, ((let P : Lines → Type 0 = λ c. IsMovingStep columns bound c r in subst P (sym m.1) k), refl)))
one_more columns bound u x (y ∷ us) s r m k = let w = one_more columns bound x y us s r m.1 k in (y ∷ w.0, (m.0, w.1))

apart : (m n : ℕ) → m ≢ n → eqb m n ≡ false
apart m n h = by (eqb m n) refl
  where
    by : (b : Bool) → eqb m n ≡ b → b ≡ false
    by true e = absurd (h (let g : m ≡ n = grind (arith, nat_tests) in g))
    by false e = refl

module _ (columns bound : ℕ) where
  all_apart : (u x : Lines) (us : List (List (Option Line))) (s : Lines) (ts : List (List (Option Line))) (t : Lines) → IsTable u → columns ≤ length u → IsLoaded columns u
      → IsMoving columns bound u (x ∷ us) s → IsMoving columns bound s ts t → AllByRecursion (λ y. eqb (slack_code columns u) y ≡ false) (codes columns ts)
  all_apart u x us s [] t w c l m n = tt
  all_apart u x us s (r ∷ ts) t w c l m n =
      let k = one_more columns bound u x us s r m n.0 in
      (apart (slack_code columns u) (slack_code columns r) (code_fresh columns bound u x k.0 r w c l k.1), all_apart u x k.0 r ts t w c l k.1 n.1)

  pub codes_distinct : (s : Lines) (ts : List (List (Option Line))) (t : Lines) → IsTable s → columns ≤ length s → IsLoaded columns s → IsMoving columns bound s ts t → IsDistinct eqb (codes columns (s ∷ ts))
  unfolding IsDistinct
  codes_distinct s [] t w c l m = (tt, tt)
  codes_distinct s (r ∷ ts) t w c l m =
      let e = m.0.is.length_same in (
        (apart (slack_code columns s) (slack_code columns r) (code_fresh columns bound s r [] r w c l (m.0, refl)), all_apart s r [] r ts t w c l (m.0, refl) m.1),
        codes_distinct r ts t (step-table columns bound s r m.0 w) (omega arith) (step-loaded columns bound s r m.0 w c l) m.1,
      )

  below : (s : Lines) (ts : List (List (Option Line))) (t : Lines) → IsMoving columns bound s ts t → (q : ℕ) → list_any (eqb q) (codes columns (s ∷ ts)) ≡ true → q < slack_sets columns s
  below s [] t m q h = at (eqb q (slack_code columns s)) refl h
    where
      at : (b : Bool) → eqb q (slack_code columns s) ≡ b → (b || false) ≡ true → q < slack_sets columns s
      at true e g = let k : q ≡ slack_code columns s = grind (arith, nat_tests) in let a = slack_code-small columns s in omega arith
      at false e g = cc
  below s (r ∷ ts) t m q h = by (eqb q (slack_code columns s)) refl h (below r ts t m.1 q)
    where
      by : (b : Bool) → eqb q (slack_code columns s) ≡ b → (b || list_any (eqb q) (codes columns (r ∷ ts))) ≡ true → (list_any (eqb q) (codes columns (r ∷ ts)) ≡ true → q < slack_sets columns r) → q < slack_sets columns s
      by true e g rest = let k : q ≡ slack_code columns s = grind (arith, nat_tests) in let a = slack_code-small columns s in omega arith
      by false e g rest = subst (λ n. q < 2 ^ (n - columns)) m.0.is.length_same (rest g)

  codes-length : (ts : List (List (Option Line))) → length (codes columns ts) ≡ length ts
  codes-length [] = refl
  codes-length (t ∷ ts) = ap suc (codes-length ts)

  -- fewer moves than sets of variables
  pub few_moves : (s : Lines) (ts : List (List (Option Line))) (t : Lines) → IsTable s → columns ≤ length s → IsLoaded columns s → IsMoving columns bound s ts t → length ts < slack_sets columns s
  few_moves s ts t w c l m =
      let h = length-le_from_distinct_below (codes columns (s ∷ ts)) (slack_sets columns s) (codes_distinct s ts t w c l m) (below s ts t m) in
      let e = codes-length ts in
      omega arith
