-- The answer of the stated solver is determined, so a solve answers exactly where the answer is due.
use Rattle.std.proofs.Common.{◌≡◌, ℕ, ◌+◌, ◌<◌, ◌≤◌, ◌⊎◌, inl, inr, refl, sym, ap, ◌∙◌, subst, arith, ℤ, List, [], ◌∷◌, length, Some, None, Option}
use Rattle.std.specs.Prelude.{slice_get}
use Rattle.ntfe_model.specs.Solver.{Table, start_table, move_of, table_numbers, first_wide, scaling_numbers, shown_step, IsRun, IsNarrow, Reaches, IsScaling, IsFeasible, IsInfeasible, IsWideTable, IsWideScaling, IsWide}
use Rattle.ntfe_model.specs.Solver.Move.{feasible as at_ease, infeasible as at_odds}
use Rattle.strict_solver.specs.declared.run.Solved.{Solved}
use Rattle.strict_solver.specs.declared.run.Solved.TheVariants.{Feasible, Infeasible, Wide}
use Rattle.strict_solver.specs.Answers.{Answer}
use Rattle.strict_solver.specs.Answers.Answer.{unsolved, feasible, infeasible}
use Rattle.strict_solver.specs.Solving.{HasSolved}
use Rattle.strict_solver.proofs.Pivots.{run-table}
use Rattle.strict_solver.proofs.Moves.{moves_same}
use Rattle.strict_solver.proofs.Runs.{AreRows, start-is_table}
use Rattle.strict_solver.proofs.Agree.{IsEnd, step_same, runs_agree, feasible-end, infeasible-end, one_answer, multipliers_same}
use Rattle.strict_solver.proofs.Scales.{scaling_same, heights_same}

-- the shorter of two runs from one start is the beginning of the other
on_way : (columns : ℕ) (s : Table) (ts us : List Table) (t u : Table) → IsRun columns s ts t → IsRun columns s us u → length us ≤ length ts → slice_get (s ∷ ts) (length us) ≡ Some u
on_way columns s ts [] t u m n l = ap Some n
on_way columns s [] (r ∷ us) t u m n l = absurd (omega arith)
on_way columns s (r ∷ ts) (q ∷ us) t u m n l =
    let k : q ≡ r = step_same columns s q r n.0 m.0 in
    let P : Table → Type 0 = λ k. IsRun columns k us u in
    on_way columns r ts us t u m.1 (subst P k n.1) (omega arith)

-- no run is longer than one that has come to its end
no_longer : (columns : ℕ) (s : Table) (ts us : List Table) (t u : Table) → IsRun columns s ts t → IsRun columns s us u → IsEnd columns t → length us ≤ length ts
no_longer columns s ts [] t u m n e = omega arith
no_longer columns s [] (r ∷ us) t u m n e = let P : Table → Type 0 = λ k. IsEnd columns k in absurd (subst P (sym m) e n.0.0 n.0.1 r.to_load n.0.2)
no_longer columns s (r ∷ ts) (q ∷ us) t u m n e =
    let k : q ≡ r = step_same columns s q r n.0 m.0 in
    let P : Table → Type 0 = λ k. IsRun columns k us u in
    let h = no_longer columns r ts us t u m.1 (subst P k n.1) e in
    omega arith

not_both : {X : Type 0} (o : Option X) (z : X) → o ≡ None → o ≡ Some z → ⊥
not_both o z e f = cc

one_of : {X : Type 0} (o : Option X) (y z : X) → o ≡ Some y → o ≡ Some z → y ≡ z
one_of o y z e f = cc

-- runs of as many steps have one end
same_place : (columns : ℕ) (s : Table) (ts us : List Table) (t u : Table) → IsRun columns s ts t → IsRun columns s us u → length us ≡ length ts → t ≡ u
same_place columns s ts us t u m n e =
    one_of (slice_get (s ∷ ts) (length us)) t u (ap (slice_get (s ∷ ts)) e ∙ on_way columns s ts ts t t m m (omega arith)) (on_way columns s ts us t u m n (omega arith))

-- a table before the end is narrow
narrow_before : (columns : ℕ) (rs : List (List ℤ)) (width steps : ℕ) (t : Table) → Reaches columns rs (Some width) steps t
    → (us : List Table) (u : Table) → IsRun columns (start_table columns rs) us u → length us < steps → first_wide width (table_numbers u) ≡ None
narrow_before columns rs width steps t r us u n l =
    let c = r.count in
    r.narrow (length us) u l (on_way columns (start_table columns rs) r.tables us t u r.run n (omega arith))

narrow_way : (columns : ℕ) (rs : List (List ℤ)) (width steps : ℕ) (t : Table) → Reaches columns rs (Some width) steps t → IsNarrow (Some width) (table_numbers t)
    → (us : List Table) (u : Table) → IsRun columns (start_table columns rs) us u → length us ≤ steps → first_wide width (table_numbers u) ≡ None
narrow_way columns rs width steps t r z us u n l = by (let d : (length us < steps) ⊎ (length us ≡ steps) = grind arith in d)
  where
    by : (length us < steps) ⊎ (length us ≡ steps) → first_wide width (table_numbers u) ≡ None
    by (inl a) = narrow_before columns rs width steps t r us u n a
    by (inr a) =
        let same : t ≡ u = same_place columns (start_table columns rs) r.tables us t u r.run n (a ∙ sym r.count) in
        ap (λ k. first_wide width (table_numbers k)) (sym same) ∙ z

never_wide : (columns : ℕ) (rs : List (List ℤ)) (width steps : ℕ) (t : Table) → Reaches columns rs (Some width) steps t → IsNarrow (Some width) (table_numbers t) → IsEnd columns t
    → (step : ℕ) (number : ℤ) → IsWideTable columns rs width step number → ⊥
never_wide columns rs width steps t r z e step number w =
    let a = no_longer columns (start_table columns rs) r.tables w.reaches.tables t w.end r.run w.reaches.run e in
    let b = r.count in
    not_both (first_wide width (table_numbers w.end)) number (narrow_way columns rs width steps t r z w.reaches.tables w.end w.reaches.run (omega arith)) w.first

ends_same : (columns : ℕ) (rs : List (List ℤ)) (v w : Option ℕ) (m n : ℕ) (t u : Table) → Reaches columns rs v m t → Reaches columns rs w n u → IsEnd columns t → IsEnd columns u → (t ≡ u) × (m ≡ n)
ends_same columns rs v w m n t u r q e f =
    let h = runs_agree columns (start_table columns rs) r.tables q.tables t u r.run q.run e f in
    (h.1, sym r.count ∙ ap length h.0 ∙ q.count)

pub feasible_not_wide : (columns : ℕ) (rs : List (List ℤ)) (width : ℕ) (hs : List ℤ) (step : ℕ) (number : ℤ) → AreRows columns rs
    → IsFeasible columns rs (Some width) hs → IsWide columns rs width step number → ⊥
feasible_not_wide columns rs width hs step number w f (inl t) = never_wide columns rs width f.steps f.end f.reaches f.narrow (feasible-end columns f.end f.move) step number t
feasible_not_wide columns rs width hs step number w f (inr t) =
    let h = ends_same columns rs (Some width) (Some width) f.steps t.steps f.end t.end f.reaches t.reaches (feasible-end columns f.end f.move) (feasible-end columns t.end t.move) in
    let P : Table → Type 0 = λ k. IsScaling columns k.lines t.scales t.heights in
    let s = scaling_same columns f.end.lines f.scales t.scales hs t.heights
    (run-table columns (start_table columns rs) f.reaches.tables f.end f.reaches.run (start-is_table columns rs w))
    f.scaling (subst P (sym h.0) t.scaling) in
    not_both (first_wide width (scaling_numbers f.scales hs)) number f.narrow_scaling ((λ i. first_wide width (scaling_numbers (s.0 i) (s.1 i))) ∙ t.first)

pub infeasible_not_wide : (columns : ℕ) (rs : List (List ℤ)) (width : ℕ) (ms : List (ℕ × ℤ)) (step : ℕ) (number : ℤ)
    → IsInfeasible columns rs (Some width) ms → IsWide columns rs width step number → ⊥
infeasible_not_wide columns rs width ms step number f (inl t) = never_wide columns rs width f.steps f.end f.reaches f.narrow (infeasible-end columns f.end f.slack f.move) step number t
infeasible_not_wide columns rs width ms step number f (inr t) =
    let h = ends_same columns rs (Some width) (Some width) f.steps t.steps f.end t.end f.reaches t.reaches (infeasible-end columns f.end f.slack f.move) (feasible-end columns t.end t.move) in
    moves_same (at_odds f.slack) at_ease (sym f.move ∙ ap (move_of columns) h.0 ∙ t.move)

tables_same : (columns : ℕ) (rs : List (List ℤ)) (width k l : ℕ) (y z : ℤ) → IsWideTable columns rs width k y → IsWideTable columns rs width l z → (k ≡ l) × (y ≡ z)
tables_same columns rs width k l y z t u = by (let d : (t.steps < u.steps) ⊎ (u.steps < t.steps) ⊎ (u.steps ≡ t.steps) = grind arith in d)
  where
    by : (t.steps < u.steps) ⊎ (u.steps < t.steps) ⊎ (u.steps ≡ t.steps) → (k ≡ l) × (y ≡ z)
    by (inl a) = let c = t.reaches.count in absurd (not_both (first_wide width (table_numbers t.end)) y (narrow_before columns rs width u.steps u.end u.reaches t.reaches.tables t.end t.reaches.run (omega arith)) t.first)
    by (inr (inl a)) = let c = u.reaches.count in absurd (not_both (first_wide width (table_numbers u.end)) z (narrow_before columns rs width t.steps t.end t.reaches u.reaches.tables u.end u.reaches.run (omega arith)) u.first)
    by (inr (inr a)) =
        let same : t.end ≡ u.end = same_place columns (start_table columns rs) t.reaches.tables u.reaches.tables t.end u.end t.reaches.run u.reaches.run (u.reaches.count ∙ a ∙ sym t.reaches.count) in
        (t.shown ∙ ap shown_step (sym a) ∙ sym u.shown, one_of (first_wide width (table_numbers t.end)) y z t.first (ap (λ e. first_wide width (table_numbers e)) same ∙ u.first))

scalings_same : (columns : ℕ) (rs : List (List ℤ)) (width k l : ℕ) (y z : ℤ) → AreRows columns rs → IsWideScaling columns rs width k y → IsWideScaling columns rs width l z → (k ≡ l) × (y ≡ z)
scalings_same columns rs width k l y z w f t =
    let h = ends_same columns rs (Some width) (Some width) f.steps t.steps f.end t.end f.reaches t.reaches (feasible-end columns f.end f.move) (feasible-end columns t.end t.move) in
    let P : Table → Type 0 = λ e. IsScaling columns e.lines t.scales t.heights in
    let s = scaling_same columns f.end.lines f.scales t.scales f.heights t.heights
    (run-table columns (start_table columns rs) f.reaches.tables f.end f.reaches.run (start-is_table columns rs w))
    f.scaling (subst P (sym h.0) t.scaling) in (
      f.shown ∙ ap (λ n. shown_step (n + 1)) h.1 ∙ sym t.shown,
      one_of (first_wide width (scaling_numbers f.scales f.heights)) y z f.first ((λ i. first_wide width (scaling_numbers (s.0 i) (s.1 i))) ∙ t.first),
    )

pub wide_same : (columns : ℕ) (rs : List (List ℤ)) (width k l : ℕ) (y z : ℤ) → AreRows columns rs → IsWide columns rs width k y → IsWide columns rs width l z → (k ≡ l) × (y ≡ z)
wide_same columns rs width k l y z w (inl t) (inl u) = tables_same columns rs width k l y z t u
wide_same columns rs width k l y z w (inl t) (inr u) = absurd (never_wide columns rs width u.steps u.end u.reaches u.narrow (feasible-end columns u.end u.move) k y t)
wide_same columns rs width k l y z w (inr t) (inl u) = absurd (never_wide columns rs width t.steps t.end t.reaches t.narrow (feasible-end columns t.end t.move) l z u)
wide_same columns rs width k l y z w (inr t) (inr u) = scalings_same columns rs width k l y z w t u

-- ---- where an answer is due, a solve gives it
pub answers_feasible : (columns : ℕ) (rs : List (List ℤ)) (width : ℕ) (s : Solved) (a : Answer) (hs : List ℤ) → AreRows columns rs
    → HasSolved columns rs width s a → IsFeasible columns rs (Some width) hs → (s ≡ Feasible) × (a ≡ feasible hs)
answers_feasible columns rs width Feasible (feasible is) hs w h f = (refl, ap feasible (heights_same columns rs (Some width) (Some width) is hs w h f))
answers_feasible columns rs width Feasible unsolved hs w h f = absurd h
answers_feasible columns rs width Feasible (infeasible ms) hs w h f = absurd h
answers_feasible columns rs width Infeasible (infeasible ms) hs w h f = absurd (one_answer columns rs (Some width) (Some width) hs ms f h)
answers_feasible columns rs width Infeasible unsolved hs w h f = absurd h
answers_feasible columns rs width Infeasible (feasible is) hs w h f = absurd h
answers_feasible columns rs width (Wide step number) a hs w h f = absurd (feasible_not_wide columns rs width hs step number w f h.0)

pub answers_infeasible : (columns : ℕ) (rs : List (List ℤ)) (width : ℕ) (s : Solved) (a : Answer) (ms : List (ℕ × ℤ))
    → HasSolved columns rs width s a → IsInfeasible columns rs (Some width) ms → (s ≡ Infeasible) × (a ≡ infeasible ms)
answers_infeasible columns rs width Infeasible (infeasible ns) ms h f = (refl, ap infeasible (multipliers_same columns rs (Some width) (Some width) ns ms h f))
answers_infeasible columns rs width Infeasible unsolved ms h f = absurd h
answers_infeasible columns rs width Infeasible (feasible hs) ms h f = absurd h
answers_infeasible columns rs width Feasible (feasible hs) ms h f = absurd (one_answer columns rs (Some width) (Some width) hs ms h f)
answers_infeasible columns rs width Feasible unsolved ms h f = absurd h
answers_infeasible columns rs width Feasible (infeasible ns) ms h f = absurd h
answers_infeasible columns rs width (Wide step number) a ms h f = absurd (infeasible_not_wide columns rs width ms step number f h.0)

pub answers_wide : (columns : ℕ) (rs : List (List ℤ)) (width : ℕ) (s : Solved) (a : Answer) (step : ℕ) (number : ℤ) → AreRows columns rs
    → HasSolved columns rs width s a → IsWide columns rs width step number → s ≡ Wide step number
answers_wide columns rs width Feasible (feasible hs) step number w h f = absurd (feasible_not_wide columns rs width hs step number w h f)
answers_wide columns rs width Feasible unsolved step number w h f = absurd h
answers_wide columns rs width Feasible (infeasible ms) step number w h f = absurd h
answers_wide columns rs width Infeasible (infeasible ms) step number w h f = absurd (infeasible_not_wide columns rs width ms step number h f)
answers_wide columns rs width Infeasible unsolved step number w h f = absurd h
answers_wide columns rs width Infeasible (feasible hs) step number w h f = absurd h
answers_wide columns rs width (Wide k y) a step number w h f = let e = wide_same columns rs width k step y number w h.0 f in λ i. Wide (e.0 i) (e.1 i)
