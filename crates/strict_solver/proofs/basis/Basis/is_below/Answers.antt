use Rattle.strict_solver.specs.Standing.{fold_sum, cell_at}
use Rattle.strict_solver.proofs.Words.{below_match}
use Rattle.strict_solver.proofs.basis.Basis.is_below.Goals as goal

pub returns : goal.returns
returns c =
    let b = c.args.self.now in
    below_match c.fold_at.result b.denominator (fold_sum (cell_at b.columns b.cells.items 1) c.args.fold.now) c.fold_at.ensures.size c.requires.sized.small c.fold_at.ensures.value
