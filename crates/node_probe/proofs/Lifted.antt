-- Folds that are positive at some heights do not cancel: the sum of positive multiples of them is positive.
use Rattle.std.proofs.Common.{◌≡◌, ℕ, ◌<◌, ◌≤◌, sym, ap, ◌∙◌, subst, arith, ℤ, pos, ◌+ℤ◌, ◌*ℤ◌, ◌<ℤ◌, List, [], ◌∷◌, length, map, get_or}
use Rattle.std.specs.Prelude.{All, Option, Some}
use Rattle.std.proofs.lemmas.Int.{ints}
use Rattle.std.proofs.lemmas.List.{length-map, get_or-map}
use Rattle.std.proofs.lemmas.List.Elements.{All-head, All-tail}
use Rattle.std.proofs.lemmas.Option.{slice_get-get_or}
use Rattle.ntfe_nums.proofs.Signs.{positive_some, positive_product, sum_positive}
use Rattle.ntfe_model.specs.Shapes.{Shape, IsShape}
use Rattle.ntfe_model.specs.Choices.{fold_value}
use Rattle.ntfe_model.specs.Solver.{fold_row, IsInfeasible}
use Rattle.ntfe_model.specs.Keys.{IsRefutedAt}
use Rattle.ntfe_model.specs.declared.nogood.Fold.{Fold}
use Rattle.strict_solver.specs.Starts.{AreFoldsOver}
use Rattle.strict_solver.specs.Equations.{combination}
use Rattle.strict_solver.proofs.Infeasible.{weighted, infeasible-cancels}
use Rattle.strict_solver.proofs.Meaning.{row_value}
use Rattle.strict_solver.proofs.Outcome.{are_rows}
use Rattle.strict_solver.proofs.Scales.{infeasible-positive, infeasible-some}
use Rattle.node_probe.specs.Heads.{AreHeadRows}
use Rattle.node_probe.specs.Lifted.{AreLifted}
use Rattle.node_probe.proofs.Solutions.{folds_over, refuted_on}

-- ---- sums of positive multiples

-- each entry is of a row below n, so many times
abbrev IsTimes : ℕ → ℕ × ℤ → Type 0
IsTimes n e = (e.0 < n) × (pos 0 <ℤ e.1)

module _ (n : ℕ) (f : ℕ → ℤ) (each : (j : ℕ) → j < n → pos 0 <ℤ f j) where
  product : (e : ℕ × ℤ) → IsTimes n e → pos 0 <ℤ (e.1 *ℤ f e.0)
  product e h = positive_product e.1 (f e.0) h.1 (each e.0 h.0)

  weighted_positive : (ms : List (ℕ × ℤ)) → 0 < length ms → All (IsTimes n) ms → pos 0 <ℤ weighted ms f
  weighted_positive [] l a = absurd (omega (arith, l))
  weighted_positive (e ∷ []) l a = last (e.1 *ℤ f e.0) (product e (All-head (IsTimes n) e [] a))
    where
      last : (x : ℤ) → pos 0 <ℤ x → pos 0 <ℤ (x +ℤ pos 0)
      last x p = omega (arith, ints, p)
  weighted_positive (e ∷ d ∷ ms) l a =
      sum_positive (e.1 *ℤ f e.0) (weighted (d ∷ ms) f) (product e (All-head (IsTimes n) e (d ∷ ms) a)) (weighted_positive (d ∷ ms) (omega arith) (All-tail (IsTimes n) e (d ∷ ms) a))

-- ---- folds

abbrev no_fold : Fold
no_fold = record { a = 0; b = 0; c = 0; d = 0; alpha = pos 0; beta = pos 0 }

-- the solver is not infeasible on folds that are positive at some heights
pub lifted_not_infeasible : (n : ℕ) (width : Option ℕ) (rs : List Fold) (ms : List (ℕ × ℤ)) → AreFoldsOver n rs → AreLifted n rs → IsInfeasible n (map (fold_row n) rs) width ms → ⊥
lifted_not_infeasible n width rs ms over (w, count, lifts) h =
    positive_some (weighted ms value) (weighted_positive (length rows) value positive ms (infeasible-some n rows width ms (are_rows n rs) h) (infeasible-positive n rows width ms h))
    (infeasible-cancels n rows width ms (are_rows n rs) h w count)
  where
    rows : List (List ℤ)
    rows = map (fold_row n) rs

    value : ℕ → ℤ
    value j = combination (get_or rows j []) w

    positive : (j : ℕ) → j < length rows → pos 0 <ℤ value j
    positive j l =
        let r = get_or rs j no_fold in
        let i : j < length rs = (let c = length-map rs (fold_row n) in omega (arith, l, c)) in
        let is : value j ≡ fold_value w r = ap (λ es. combination es w) (get_or-map (fold_row n) rs j no_fold [] i) ∙ row_value n r w count (over.each j r (slice_get-get_or rs j no_fold i)) in
        let P : ℤ → Type 0 = λ z. pos 0 <ℤ z in
        subst P (sym is) (lifts j no_fold i)

module _ (g : Shape) (s : IsShape g) (key : List ℕ) (rs : List Fold) (faces : List ℕ) (rows : AreHeadRows g key rs faces) where
  -- nor is it on those of a head
  pub lifted_not_refuted : length key ≤ length g.faces → AreLifted (length g.points) rs → (width : ℕ) → IsRefutedAt g width key → ⊥
  lifted_not_refuted at_most lifted width r = let i = refuted_on g s key rs faces rows width r in lifted_not_infeasible (length g.points) (Some width) rs i.0 (folds_over g s key rs faces rows at_most) lifted i.1
