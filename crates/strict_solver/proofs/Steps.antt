-- The pivot as a function of the table, and how many moves are still to come.
--     step_lines x y s      the table after the pivot on x and y
--     moves_left            the number of moves to come, within a bound; it falls at each move
use Rattle.std.proofs.Common.{◌≡◌, ◌≢◌, ℕ, zero, suc, ◌+◌, ◌-◌, ◌<◌, ◌≤◌, ◌==◌, inl, inr, Bool, true, false, cond, refl, sym, ap, ◌∙◌, subst, arith, ℤ, pos, negsuc, ◌*ℤ◌, ◌<ℤ◌, List, [], ◌∷◌, length, get_or, Option, Some, None}
use Rattle.std.proofs.lemmas.Int.{ints}
use Rattle.ntfe_nums.specs.Vectors.{sign}
use Rattle.ntfe_model.specs.Solver.{Line, Move, coefficient_at, solved_for, with_put_in, IsReduced, IsNextLine, IsPivot, moving}
use Rattle.ntfe_model.specs.Solver.Move.{pivot, feasible, infeasible}
use Rattle.strict_solver.specs.Grids.{IsPivotable}
use Rattle.strict_solver.proofs.Reduced.{reduced, reduced-is}
use Rattle.strict_solver.proofs.Pivots.{IsTable, get_here, get_there}
use Rattle.strict_solver.proofs.Moves.{IsMove, moving-pivot, first_slack-found, entering-found}
use Rattle.strict_solver.proofs.Bland.{IsMovingStep, IsMoving, IsLoaded, step-table}
use Rattle.strict_solver.proofs.Bases.{slack_sets}
use Rattle.strict_solver.proofs.Bound.{few_moves}
use Rattle.strict_solver.proofs.Entries.{slice_none}
use Rattle.ntfe_nums.proofs.Comparisons.{same_from_test, other_from_test}
use Rattle.ntfe_nums.proofs.Signs.{positive_product}

abbrev next_line : ℕ → ℕ → Line → ℕ → Option Line → Option Line
next_line x y m z None = cond (z == y) (Some m) None
next_line x y m z (Some q) = cond (z == x) None (Some (reduced (with_put_in q y m)))

abbrev next_from : ℕ → ℕ → Line → ℕ → List (Option Line) → List (Option Line)
next_from x y m z [] = []
next_from x y m z (o ∷ s) = next_line x y m z o ∷ next_from x y m (suc z) s

abbrev stepped : ℕ → ℕ → List (Option Line) → Option Line → List (Option Line)
stepped x y s None = s
stepped x y s (Some row) = next_from x y (reduced (solved_for row x y)) 0 s

abbrev pub step_lines : ℕ → ℕ → List (Option Line) → List (Option Line)
step_lines x y s = stepped x y s (get_or s x None)

next_from-length : (x y : ℕ) (m : Line) (a : ℕ) (s : List (Option Line)) → length (next_from x y m a s) ≡ length s
next_from-length x y m a [] = refl
next_from-length x y m a (o ∷ s) = ap suc (next_from-length x y m (suc a) s)

next_from-get : (x y : ℕ) (m : Line) (a : ℕ) (s : List (Option Line)) (z : ℕ) → z < length s → get_or (next_from x y m a s) z None ≡ next_line x y m (a + z) (get_or s z None)
next_from-get x y m a [] z h = absurd (omega arith)
next_from-get x y m a (o ∷ s) zero h = ap (λ k. next_line x y m k o) (let e : a ≡ a + 0 = omega arith in e)
next_from-get x y m a (o ∷ s) (suc z) h = next_from-get x y m (suc a) s z (omega arith) ∙ ap (λ k. next_line x y m k (get_or s z None)) (let e : suc a + z ≡ a + suc z = omega arith in e)

pub sign_positive : (z : ℤ) → z ≢ pos 0 → pos 0 <ℤ (sign z *ℤ z)
sign_positive (pos zero) h = absurd (h refl)
sign_positive (pos (suc n)) h = positive_product (pos 1) (pos (suc n)) (omega (arith, ints)) (omega (arith, ints))
sign_positive (negsuc n) h = omega (arith, ints)

module _ (x y : ℕ) (s : List (Option Line)) (w : IsTable s) (p : IsPivotable x y s) where
  new : Line
  new = reduced (solved_for p.row x y)

  solved : IsReduced (solved_for p.row x y) (reduced (solved_for p.row x y))
  solved = reduced-is (solved_for p.row x y) (sign_positive (coefficient_at p.row y) p.not_zero)

  lines_at : (z : ℕ) → z < length s → IsNextLine x y (reduced (solved_for p.row x y)) z (get_or s z None) (get_or (next_from x y (reduced (solved_for p.row x y)) 0 s) z None)
  lines_at z l = by (get_or s z None) refl
    where
      m : Line
      m = reduced (solved_for p.row x y)

      at : get_or (next_from x y (reduced (solved_for p.row x y)) 0 s) z None ≡ next_line x y (reduced (solved_for p.row x y)) z (get_or s z None)
      at = next_from-get x y (reduced (solved_for p.row x y)) 0 s z l ∙ ap (λ k. next_line x y (reduced (solved_for p.row x y)) k (get_or s z None)) (let e : 0 + z ≡ z = omega arith in e)

      here : (o : Option Line) → get_or s z None ≡ o → get_or (next_from x y (reduced (solved_for p.row x y)) 0 s) z None ≡ next_line x y (reduced (solved_for p.row x y)) z o
      here o e = at ∙ ap (next_line x y (reduced (solved_for p.row x y)) z) e

      not_x : get_or s z None ≡ None → z ≢ x
      not_x e f = let P : ℕ → Type 0 = λ k. get_or s k None ≡ None in let a = subst P f e in let b = (get_here s x (Some p.row) p.is).0 in cc

      not_y : (q : Line) → get_or s z None ≡ Some q → z ≢ y
      not_y q e f = let P : ℕ → Type 0 = λ k. get_or s k None ≡ Some q in let a = subst P f e in let b = (get_here s y None p.other).0 in cc

      by : (o : Option Line) → get_or s z None ≡ o → IsNextLine x y (reduced (solved_for p.row x y)) z o (get_or (next_from x y (reduced (solved_for p.row x y)) 0 s) z None)
      by None e = on (z == y) refl
        where
          on : (b : Bool) → (z == y) ≡ b → IsNextLine x y (reduced (solved_for p.row x y)) z None (get_or (next_from x y (reduced (solved_for p.row x y)) 0 s) z None)
          on true f = inr (inl (same_from_test z y f, here None e ∙ ap (λ b. cond b (Some (reduced (solved_for p.row x y))) None) f))
          on false f = inr (inr (inl (not_x e, other_from_test z y f, refl, here None e ∙ ap (λ b. cond b (Some (reduced (solved_for p.row x y))) None) f)))
      by (Some q) e = on (z == x) refl
        where
          on : (b : Bool) → (z == x) ≡ b → IsNextLine x y (reduced (solved_for p.row x y)) z (Some q) (get_or (next_from x y (reduced (solved_for p.row x y)) 0 s) z None)
          on true f = inl (same_from_test z x f, here (Some q) e ∙ ap (λ b. cond b None (Some (reduced (with_put_in q y (reduced (solved_for p.row x y)))))) f)
          on false f = inr (inr (inr (
            q,
            reduced (with_put_in q y (reduced (solved_for p.row x y))),
            other_from_test z x f,
            not_y q e,
            refl,
            here (Some q) e ∙ ap (λ b. cond b None (Some (reduced (with_put_in q y (reduced (solved_for p.row x y)))))) f,
            reduced-is (with_put_in q y (reduced (solved_for p.row x y))) (positive_product q.d (reduced (solved_for p.row x y)).d (w z q e).positive solved.positive),
          )))

  pub step-is : IsPivot x y s (step_lines x y s)
  step-is =
      let P : List (Option Line) → Type 0 = λ t. IsPivot x y s t in
      subst P (sym (ap (stepped x y s) (get_here s x (Some p.row) p.is).0))
      (record {
        row = p.row;
        is = p.is;
        other = p.other;
        not_zero = p.not_zero;
        new = reduced (solved_for p.row x y);
        solved = solved;
        length_same = next_from-length x y (reduced (solved_for p.row x y)) 0 s;
        lines = lines_at;
      })

-- ---- the moves to come
abbrev counted : Move → (ℕ → ℕ → ℕ) → ℕ
counted (pivot x y l) rest = suc (rest x y)
counted feasible rest = 0
counted (infeasible x) rest = 0

abbrev pub moves_left : ℕ → ℕ → List (Option Line) → ℕ
moves_left columns zero s = 0
moves_left columns (suc f) s = counted (moving columns s) (λ x y. moves_left columns f (step_lines x y s))

pub move-pivotable : (columns x y : ℕ) (s : List (Option Line)) → IsMove columns s x y → IsPivotable x y s
move-pivotable columns x y s m =
    let f = first_slack-found columns _ s x m.leaving in
    let g = entering-found columns s x f.row y f.is m.entering in
    record { row = f.row; is = get_there s x f.row f.is; other = slice_none s y g.below g.other; not_zero = λ e. (let h = g.positive in omega (arith, ints)) }

-- a run with as many moves
record HasRun (columns bound n : ℕ) (s : List (Option Line)) : Type 0 where
  ts : List (List (Option Line))
  t : List (Option Line)
  count : length ts ≡ n
  is : IsMoving columns bound s ts t

has_run : (columns bound f : ℕ) (s : List (Option Line)) → IsTable s → length s ≤ bound → HasRun columns bound (moves_left columns f s) s
has_run columns bound zero s w l = record { ts = []; t = s; count = refl; is = refl }
has_run columns bound (suc f) s w l = by (moving columns s) refl (λ x y. has_run columns bound f (step_lines x y s))
  where
    by : (m : Move) → moving columns s ≡ m → ((x y : ℕ) → IsTable (step_lines x y s) → length (step_lines x y s) ≤ bound → HasRun columns bound (moves_left columns f (step_lines x y s)) (step_lines x y s))
        → HasRun columns bound (counted m (λ x y. moves_left columns f (step_lines x y s))) s
    by feasible e rest = record { ts = []; t = s; count = refl; is = refl }
    by (infeasible x) e rest = record { ts = []; t = s; count = refl; is = refl }
    by (pivot x y k) e rest =
        let m = (moving-pivot columns s x y k e).0 in
        let p = step-is x y s w (move-pivotable columns x y s m) in
        let step : IsMovingStep columns bound s (step_lines x y s) = record { x = x; y = y; small = (let a = (first_slack-found columns _ s x m.leaving).below in omega arith); move = m; is = p } in
        let r = rest x y (step-table columns bound s (step_lines x y s) step w) (let a = p.length_same in omega arith) in
        record { ts = step_lines x y s ∷ r.ts; t = r.t; count = ap suc r.count; is = (step, r.is) }

pub moves_left-small : (columns f : ℕ) (s : List (Option Line)) → IsTable s → columns ≤ length s → IsLoaded columns s → moves_left columns f s < slack_sets columns s
moves_left-small columns f s w c l =
    let r = has_run columns (length s) f s w (omega arith) in
    let h = few_moves columns (length s) s r.ts r.t w c l r.is in
    let e = r.count in
    omega arith

stable : (columns f : ℕ) (s : List (Option Line)) → moves_left columns f s < f → moves_left columns (suc f) s ≡ moves_left columns f s
stable columns zero s h = absurd (omega arith)
stable columns (suc f) s h = by (moving columns s) refl h (λ x y. stable columns f (step_lines x y s))
  where
    by : (m : Move) → moving columns s ≡ m → counted m (λ x y. moves_left columns f (step_lines x y s)) < suc f
        → ((x y : ℕ) → moves_left columns f (step_lines x y s) < f → moves_left columns (suc f) (step_lines x y s) ≡ moves_left columns f (step_lines x y s))
        → counted m (λ x y. moves_left columns (suc f) (step_lines x y s)) ≡ counted m (λ x y. moves_left columns f (step_lines x y s))
    by feasible e g rest = refl
    by (infeasible x) e g rest = refl
    by (pivot x y l) e g rest = ap suc (rest x y (omega arith))

-- the number of moves to come falls at a move
pub moves_left-falls : (columns x y : ℕ) (s : List (Option Line)) → IsTable s → columns ≤ length s → IsLoaded columns s → IsMove columns s x y → moving columns s ≡ pivot x y []
    → slack_sets columns (step_lines x y s) ≡ slack_sets columns s → moves_left columns (slack_sets columns (step_lines x y s)) (step_lines x y s) < moves_left columns (slack_sets columns s) s
moves_left-falls columns x y s w c l m e q =
    let h = moves_left-small columns (slack_sets columns s) s w c l in
    let some : slack_sets columns s ≡ suc (slack_sets columns s - 1) = omega arith in
    by (slack_sets columns s - 1) some (subst (λ n. moves_left columns n s < n) some h) q
  where
    by : (f : ℕ) → slack_sets columns s ≡ suc f → moves_left columns (suc f) s < suc f → slack_sets columns (step_lines x y s) ≡ slack_sets columns s → moves_left columns (slack_sets columns (step_lines x y s)) (step_lines x y s) < moves_left columns (slack_sets columns s) s
    by f g h q =
        let one : moves_left columns (suc f) s ≡ suc (moves_left columns f (step_lines x y s)) = ap (λ k. counted k (λ u v. moves_left columns f (step_lines u v s))) e in
        let two = stable columns f (step_lines x y s) (omega arith) in
        let three : moves_left columns (slack_sets columns (step_lines x y s)) (step_lines x y s) ≡ moves_left columns (suc f) (step_lines x y s) = ap (λ n. moves_left columns n (step_lines x y s)) (q ∙ g) in
        let four : moves_left columns (slack_sets columns s) s ≡ moves_left columns (suc f) s = ap (λ n. moves_left columns n s) g in
        omega arith
