use Rattle.std.proofs.Common.{sym, subst, refl, List}
use Rattle.ntfe_model.specs.declared.nogood.Fold.{Fold}
use Rattle.strict_solver.specs.declared.basis.Basis.{Basis}
use Rattle.strict_solver.specs.Starts.{AreFoldsOver}
use Rattle.strict_solver.specs.Standing.{StandsLoaded}
use Rattle.strict_solver.proofs.Settling.{end_idles}
use Rattle.strict_solver.proofs.basis.Basis.move_on.Goals as goal

pub settle-requires-clause-loaded : goal.settle-requires-clause-loaded
settle-requires-clause-loaded c =
    let b = c.args.self.now in
    let s = c.requires.last.1 in
    let d : Basis = record { columns = b.columns; denominator = b.denominator; cells = b.cells; places = c.push.new.self; line = b.line } in
    let P : List Fold → Type 0 = λ gs. StandsLoaded d gs in
    let Q : List Fold → Type 0 = λ gs. AreFoldsOver b.columns gs in
    subst P (sym s.all) (end_idles b s.before s.stands c.requires.last.0 (subst Q s.all c.requires.folds) c.requires.last.2 d refl refl refl c.in_ok-push.ensures.items)
