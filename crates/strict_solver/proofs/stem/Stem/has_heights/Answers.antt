use Rattle.std.proofs.Common.{◌∙◌, ap, subst, ℕ, List, map}
use Rattle.std.specs.Prelude.{None}
use Rattle.ntfe_model.specs.declared.nogood.Fold.{Fold}
use Rattle.ntfe_model.specs.Solver.{fold_row, IsFeasible}
use Rattle.strict_solver.specs.Stems.{StemValue}
use Rattle.strict_solver.proofs.Stems.{view_known, known_now, some_heights}
use Rattle.strict_solver.proofs.stem.Stem.has_heights.Goals as goal

pub returns : goal.returns
returns c = λ fs e.
    let b = c.self.inside.basis in
    let items = c.self.inside.folds.items in
    let f = ap (λ (v : StemValue). v.folds) c.self.view_is ∙ e in
    let v = view_known c.self.inside.known items fs f in
    let h = some_heights b items (known_now c.self.inside.known b items fs c.self.invariant.1 f) in
    let P : ℕ → Type 0 = λ n. IsFeasible n (map (fold_row n) fs) None h.0 in
    let Q : List Fold → Type 0 = λ gs. IsFeasible b.columns (map (fold_row b.columns) gs) None h.0 in
    (h.0, subst P (ap (λ (v : StemValue). v.columns) c.self.view_is) (subst Q v.1 h.1))
