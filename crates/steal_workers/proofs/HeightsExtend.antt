-- The folds of a head are over the points, and the heights of a choice extend it.
use Rattle.std.proofs.Common.{ℕ, ◌<◌, ◌≤◌, subst, arith, ℤ, pos, ◌<ℤ◌, ◌≤ℤ◌, List, [], length, map, get_or, None}
use Rattle.std.specs.Prelude.{All}
use Rattle.std.proofs.lemmas.Int.{ints}
use Rattle.std.proofs.lemmas.List.{length-map, get_or-map}
use Rattle.std.proofs.lemmas.Option.{slice_get_within, slice_get-get_or, get_or_from_slice_get}
use Rattle.ntfe_model.specs.Shapes.{Shape, IsShape}
use Rattle.ntfe_model.specs.Charts.{patch_at}
use Rattle.ntfe_model.specs.Words.{IsItem}
use Rattle.ntfe_model.specs.Choices.{IsChoice, Extends, IsFoldOf, fold_value}
use Rattle.ntfe_model.specs.Solver.{fold_row, IsFeasible}
use Rattle.ntfe_model.specs.Keys.{AreHeadFolds, AreHeightsOf}
use Rattle.ntfe_model.specs.declared.triangulation.Triangulation.{Triangulation}
use Rattle.ntfe_model.specs.declared.nogood.Fold.{Fold}
use Rattle.farkas_check.proofs.PartFolds.{fold_factors}
use Rattle.node_probe.proofs.Counts.{fold_known}
use Rattle.node_probe.proofs.Heads.{head_all}
use Rattle.node_probe.proofs.Extending.{folds_extend}
use Rattle.strict_solver.specs.Starts.{IsFoldOver, AreFoldsOver}
use Rattle.strict_solver.specs.Equations.{combination}
use Rattle.strict_solver.proofs.Feasible.{feasible-rows}
use Rattle.strict_solver.proofs.Meaning.{row_value}
use Rattle.strict_solver.proofs.Outcome.{are_rows}

-- the folds of a head are over the points, with small multipliers
pub head_over : (g : Shape) → IsShape g → (head : List ℕ) → length head ≤ length g.faces → (rs : List Fold) → AreHeadFolds g 0 head rs → AreFoldsOver (length g.points) rs
head_over g s head at_most rs folds = record { each = λ j f e. subst (IsFoldOver n) (get_or_from_slice_get rs j f f e) (all j f (slice_get_within rs j f e)) }
  where
    n : ℕ
    n = length g.points

    one : (f : ℕ) → f < length head → (x : Triangulation) → IsItem (patch_at g f) (get_or head f 0) x → (r : Fold) → IsFoldOf (patch_at g f) x r → IsFoldOver n r
    one f l x i r k =
        let below : f < length g.faces = omega (arith, l, at_most) in
        let known = fold_known g s f below (get_or head f 0) x i r k in
        let small = fold_factors g s f (get_or head f 0) below x i r k in
        record { a = known.0; b = known.1; c = known.2; d = known.3; alpha = small.0; beta = small.1 }

    all : All (IsFoldOver n) rs
    all = head_all g (IsFoldOver n) head rs folds one

module _ (g : Shape) (s : IsShape g) (choice : List ℕ) (items : IsChoice g choice) (rs : List Fold) (folds : AreHeadFolds g 0 choice rs) where
  pub choice_over : AreFoldsOver (length g.points) rs
  choice_over = head_over g s choice (let e = items.faces in omega (arith, e)) rs folds

  pub feasible_extends : (w : List ℤ) → IsFeasible (length g.points) (map (fold_row (length g.points)) rs) None w → Extends g w choice
  feasible_extends w h = folds_extend g s w h.scaling.counts.1 choice items.faces rs folds positive
    where
      positive : All (λ r. pos 0 <ℤ fold_value w r) rs
      positive j d l =
          let n = length g.points in
          let f = get_or rs j d in
          let count = length-map rs (fold_row n) in
          let r = feasible-rows n (map (fold_row n) rs) None w (are_rows n rs) h j (omega (arith, count, l)) in
          let P : List ℤ → Type 0 = λ row. pos 1 ≤ℤ combination row w in
          let Q : ℤ → Type 0 = λ z. pos 1 ≤ℤ z in
          let one = subst Q (row_value n f w h.scaling.counts.1 (choice_over.each j f (slice_get-get_or rs j d l))) (subst P (get_or-map (fold_row n) rs j d [] l) r) in
          omega (arith, ints, one)

-- the heights of a choice extend it
pub heights_extend : (g : Shape) → IsShape g → (choice : List ℕ) (w : List ℤ) → IsChoice g choice → AreHeightsOf g choice w → Extends g w choice
heights_extend g s choice w items (rs, folds, h) = feasible_extends g s choice items rs folds w h
