-- Runs of the stated solver from one start agree.
use Rattle.std.proofs.Common.{◌≡◌, ◌≢◌, ℕ, refl, sym, ap, ◌∙◌, subst, arith, ℤ, List, [], ◌∷◌, length, get_or, Some, None, Option}
use Rattle.std.specs.Prelude.{slice_get}
use Rattle.std.proofs.lemmas.List.{get_or_default, same_lists}
use Rattle.ntfe_model.specs.Solver.{Line, Table, solved_for, with_put_in, IsReduced, IsPivot, move_of, start_table, multipliers_of, IsStepOf, IsRun, IsFeasible, IsInfeasible}
use Rattle.ntfe_model.specs.Solver.Move.{pivot, feasible, infeasible}
use Rattle.strict_solver.proofs.Moves.{moves_same}
use Rattle.strict_solver.proofs.One.{reduced_same}
use Rattle.strict_solver.proofs.Entries.{line_or, at_places, both_some}
use Rattle.strict_solver.proofs.Pivots.{pivot-leaving, pivot-left, pivot-new, pivot-free, pivot-put}

abbrev line_in : Line → Option (Option Line) → Line
line_in r None = r
line_in r (Some o) = line_or r o

pub pivot_same : (x y : ℕ) (s t u : List (Option Line)) → IsPivot x y s t → IsPivot x y s u → t ≡ u
pivot_same x y s t u p q =
    same_lists t u (p.length_same ∙ sym q.length_same)
    (λ k d l. get_or_default t k d None l ∙ at_places x y s (λ k. get_or t k None ≡ get_or u k None) left new free put k ∙ get_or_default u k None d (let a = p.length_same in let b = q.length_same in omega arith))
  where
    news : p.new ≡ q.new
    news =
        let P : Line → Type 0 = λ r. IsReduced (solved_for r x y) q.new in
        reduced_same (solved_for p.row x y) p.new q.new p.solved (subst P (both_some _ q.row p.row (pivot-leaving x y s u q).0 (pivot-leaving x y s t p).0) q.solved)

    left : get_or t x None ≡ get_or u x None
    left = pivot-left x y s t p ∙ sym (pivot-left x y s u q)

    new : get_or t y None ≡ get_or u y None
    new = pivot-new x y s t p ∙ ap Some news ∙ sym (pivot-new x y s u q)

    free : (k : ℕ) → k ≢ y → get_or s k None ≡ None → get_or t k None ≡ get_or u k None
    free k n e = pivot-free x y s t p k e n ∙ sym (pivot-free x y s u q k e n)

    put : (k : ℕ) (o : Line) → k ≢ x → get_or s k None ≡ Some o → get_or t k None ≡ get_or u k None
    put k o n e =
        let h = pivot-put x y s t p k o e n in
        let g = pivot-put x y s u q k o e n in
        let P : Line → Type 0 = λ m. IsReduced (with_put_in o y m) g.0 in
        h.1 ∙ ap Some (reduced_same (with_put_in o y p.new) h.0 g.0 h.2 (subst P (sym news) g.2)) ∙ sym g.1

pub step_same : (columns : ℕ) (s t u : Table) → IsStepOf columns s t → IsStepOf columns s u → t ≡ u
step_same columns s t u m n =
    let e = moves_same _ _ (sym m.2 ∙ n.2) in
    let P : ℕ → Type 0 = λ x. IsPivot x n.1 s.lines u.lines in
    let Q : ℕ → Type 0 = λ y. IsPivot m.0 y s.lines u.lines in
    let l = pivot_same m.0 m.1 s.lines t.lines u.lines m.3 (subst Q (sym e.1) (subst P (sym e.0) n.3)) in
    λ i. record { lines = l i; to_load = e.2 i }

-- no pivot comes
abbrev pub IsEnd : ℕ → Table → Type 0
IsEnd columns t = (x y : ℕ) (l : List ℕ) → move_of columns t ≡ pivot x y l → ⊥

-- two runs from one start to an end are one
pub runs_agree : (columns : ℕ) (s : Table) (ts us : List Table) (t u : Table) → IsRun columns s ts t → IsRun columns s us u → IsEnd columns t → IsEnd columns u → (ts ≡ us) × (t ≡ u)
runs_agree columns s [] [] t u m n e f = (refl, sym m ∙ n)
runs_agree columns s [] (r ∷ us) t u m n e f = let P : Table → Type 0 = λ k. IsEnd columns k in absurd (subst P (sym m) e n.0.0 n.0.1 r.to_load n.0.2)
runs_agree columns s (r ∷ ts) [] t u m n e f = let P : Table → Type 0 = λ k. IsEnd columns k in absurd (subst P (sym n) f m.0.0 m.0.1 r.to_load m.0.2)
runs_agree columns s (r ∷ ts) (q ∷ us) t u m n e f =
    let k : q ≡ r = step_same columns s q r n.0 m.0 in
    let P : Table → Type 0 = λ k. IsRun columns k us u in
    let h = runs_agree columns r ts us t u m.1 (subst P k n.1) e f in
    ((λ i. sym k i ∷ h.0 i), h.1)

pub feasible-end : (columns : ℕ) (t : Table) → move_of columns t ≡ feasible → IsEnd columns t
feasible-end columns t e x y l f = moves_same feasible (pivot x y l) (sym e ∙ f)

pub infeasible-end : (columns : ℕ) (t : Table) (z : ℕ) → move_of columns t ≡ infeasible z → IsEnd columns t
infeasible-end columns t z e x y l f = moves_same (infeasible z) (pivot x y l) (sym e ∙ f)

-- not both answers
pub one_answer : (columns : ℕ) (rs : List (List ℤ)) (v w : Option ℕ) (heights : List ℤ) (ms : List (ℕ × ℤ)) → IsFeasible columns rs v heights → IsInfeasible columns rs w ms → ⊥
one_answer columns rs v w heights ms f g =
    let h = runs_agree columns (start_table columns rs) f.reaches.tables g.reaches.tables f.end g.end f.reaches.run g.reaches.run (feasible-end columns f.end f.move) (infeasible-end columns g.end g.slack g.move) in
    moves_same feasible (infeasible g.slack) (sym f.move ∙ ap (move_of columns) h.1 ∙ g.move)

-- the multipliers are determined
pub multipliers_same : (columns : ℕ) (rs : List (List ℤ)) (v w : Option ℕ) (ms ns : List (ℕ × ℤ)) → IsInfeasible columns rs v ms → IsInfeasible columns rs w ns → ms ≡ ns
multipliers_same columns rs v w ms ns f g =
    let h = runs_agree columns (start_table columns rs) f.reaches.tables g.reaches.tables f.end g.end f.reaches.run g.reaches.run (infeasible-end columns f.end f.slack f.move) (infeasible-end columns g.end g.slack g.move) in
    let x : f.slack ≡ g.slack = moves_same (infeasible f.slack) (infeasible g.slack) (sym f.move ∙ ap (move_of columns) h.1 ∙ g.move) in
    let r : f.row ≡ g.row = ap (line_in f.row) (sym f.is ∙ (λ i. slice_get (Table.lines (h.1 i)) (x i)) ∙ g.is) in
    f.multipliers_are ∙ (λ i. multipliers_of columns (length rs) (x i) (r i)) ∙ sym g.multipliers_are
