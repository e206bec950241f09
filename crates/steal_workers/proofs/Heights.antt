-- The heights of a choice are determined.
use Rattle.std.proofs.Common.{◌≡◌, ℕ, ◌+◌, ◌∙◌, sym, subst, ℤ, List, [], ◌∷◌, ◌++◌, length, map, None}
use Rattle.ntfe_model.specs.Shapes.{Shape}
use Rattle.ntfe_model.specs.Charts.{patch_at}
use Rattle.ntfe_model.specs.Choices.{AreFolds}
use Rattle.ntfe_model.specs.Solver.{fold_row, IsFeasible}
use Rattle.ntfe_model.specs.Keys.{AreHeadFolds, AreHeightsOf}
use Rattle.ntfe_model.specs.declared.triangulation.Triangulation.{Triangulation}
use Rattle.ntfe_model.specs.declared.nogood.Fold.{Fold}
use Rattle.ntfe_model.proofs.Items.{item_fixed}
use Rattle.face_chart.proofs.FineSets.{folds_fixed}
use Rattle.strict_solver.proofs.Outcome.{are_rows}
use Rattle.strict_solver.proofs.Scales.{heights_same}

-- a head has one list of folds
pub head_folds_fixed : (g : Shape) (f : ℕ) (ns : List ℕ) (qs rs : List Fold) → AreHeadFolds g f ns qs → AreHeadFolds g f ns rs → qs ≡ rs
head_folds_fixed g f [] qs rs h k = h ∙ sym k
head_folds_fixed g f (n ∷ ns) qs rs (x, first, rest, item, folds, more, is) (y, one, others, item2, folds2, more2, is2) =
    let same : x ≡ y = item_fixed (patch_at g f) n x y item item2 in
    let P = λ (z : Triangulation). AreFolds (patch_at g f) z first in
    let a : first ≡ one = folds_fixed (patch_at g f) y first one (subst P same folds) folds2 in
    let b : rest ≡ others = head_folds_fixed g (f + 1) ns rest others more more2 in
    is ∙ (λ i. a i ++ b i) ∙ sym is2

-- a choice has one list of heights
pub heights_fixed : (g : Shape) (choice : List ℕ) (v w : List ℤ) → AreHeightsOf g choice v → AreHeightsOf g choice w → v ≡ w
heights_fixed g choice v w (rs, folds, f) (qs, folds2, k) =
    let n = length g.points in
    let same = head_folds_fixed g 0 choice qs rs folds2 folds in
    let P = λ (fs : List Fold). IsFeasible n (map (fold_row n) fs) None w in
    heights_same n (map (fold_row n) rs) None None v w (are_rows n rs) f (subst P same k)
