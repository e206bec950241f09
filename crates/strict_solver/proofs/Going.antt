-- One row more, in short. Let the stated run on the rows P come to `end`, feasible, and let l be the line of q's slack over the
-- variables that are not basic there, in lowest form.
--     going-loads          l has heights that are not basic, and k is the least: the run on P and q ends feasible, one pivot after `end`
--     going-idles          l has none: the run on P and q comes to `end` with l joined to it, with nothing left to load
--     still-infeasible     where P's run ends infeasible, so do those on P and more rows, with the same multipliers
use Rattle.std.proofs.Common.{◌≡◌, ℕ, refl, sym, ap, ◌∙◌, subst, arith, ℤ, List, [], ◌∷◌, ◌++◌, length, length-append, None, ◌+◌}
use Rattle.std.proofs.lemmas.List.{get_or_append_left}
use Rattle.ntfe_model.specs.Solver.{Line, Table, IsPivot, IsInfeasible}
use Rattle.strict_solver.specs.Continuing.{IsLowest, IsLineFor, with_row, EndsWith, HasLoadedTo, IsLeastHeight, AreBasicBeside, HasNoHeight}
use Rattle.strict_solver.proofs.Runs.{AreRows}
use Rattle.strict_solver.proofs.GoingOn.{goes_on, going_on-infeasible}
use Rattle.strict_solver.proofs.Deciding.{loads-least, loads-none}
use Rattle.strict_solver.proofs.Joining.{joins-idle, joins-loaded}

module _ (columns : ℕ) (rs : List (List ℤ)) (q : List ℤ) (w : AreRows columns (rs ++ q ∷ [])) where
  module _ (end : Table) (e : EndsWith columns rs end) (l : Line) (f : IsLineFor q end.lines l) (low : IsLowest l) where
    pub going-loads : (k : ℕ) → IsLeastHeight columns end.lines l k
        → (t : Table) × EndsWith columns (rs ++ q ∷ []) t × AreBasicBeside end.lines t.lines k × IsPivot (length end.lines) k (with_row end.lines l) t.lines
    going-loads k h =
        let g = goes_on columns rs q w e.steps end e.reaches in
        let j = joins-loaded columns rs q w e.steps end e.reaches g e.move l f low k h.within h.other h.some h.least in
        let b = loads-least columns rs q w e.steps end e.reaches g l f e.move k h.within h.other h.some h.least in
        let P : ℕ → Type 0 = λ z. AreBasicBeside end.lines g.table.lines z in
        (g.table, record { steps = g.steps; reaches = g.reaches; move = j.1 }, subst P b.0 (record { new = g.follows.other; line = g.follows.line; basic = g.follows.extra; others = g.follows.basics }), j.0)

    pub going-idles : HasNoHeight columns end.lines l
        → (t : Table) × HasLoadedTo columns (rs ++ q ∷ []) t × AreBasicBeside end.lines t.lines (columns + length rs) × (t.lines ≡ with_row end.lines l)
    going-idles h =
        let g = goes_on columns rs q w e.steps end e.reaches in
        let j = joins-idle columns rs q w e.steps end e.reaches g e.move l f low h in
        let b = loads-none columns rs q w e.steps end e.reaches g l f e.move h in
        let P : ℕ → Type 0 = λ z. AreBasicBeside end.lines g.table.lines z in
        (g.table, record { steps = g.steps; reaches = g.reaches; done = j.1 }, subst P b.0 (record { new = g.follows.other; line = g.follows.line; basic = g.follows.extra; others = g.follows.basics }), sym j.0)

append-empty : (rs : List (List ℤ)) → rs ++ [] ≡ rs
append-empty [] = refl
append-empty (r ∷ rs) = ap (λ k. r ∷ k) (append-empty rs)

append-step : (rs qs : List (List ℤ)) (q : List ℤ) → (rs ++ q ∷ []) ++ qs ≡ rs ++ (q ∷ qs)
append-step [] qs q = refl
append-step (r ∷ rs) qs q = ap (λ k. r ∷ k) (append-step rs qs q)

pub still-infeasible : (columns : ℕ) (rs qs : List (List ℤ)) → AreRows columns (rs ++ qs) → (ms : List (ℕ × ℤ)) → IsInfeasible columns rs None ms → IsInfeasible columns (rs ++ qs) None ms
still-infeasible columns rs [] w ms f = let P : List (List ℤ) → Type 0 = λ k. IsInfeasible columns k None ms in subst P (sym (append-empty rs)) f
still-infeasible columns rs (q ∷ qs) w ms f =
    let P : List (List ℤ) → Type 0 = λ k. IsInfeasible columns k None ms in
    let Q : List (List ℤ) → Type 0 = λ k. AreRows columns k in
    let rows : AreRows columns ((rs ++ q ∷ []) ++ qs) = subst Q (sym (append-step rs qs q)) w in
    subst P (append-step rs qs q) (still-infeasible columns (rs ++ q ∷ []) qs rows ms (going_on-infeasible columns rs q (front (rs ++ q ∷ []) qs rows) ms f))
  where
    front : (ps ks : List (List ℤ)) → AreRows columns (ps ++ ks) → AreRows columns ps
    front ps ks h j l = ap (λ (k : List ℤ). length k) (sym (get_or_append_left ps ks [] j l)) ∙ h j (let a = length-append ps ks in omega arith)
