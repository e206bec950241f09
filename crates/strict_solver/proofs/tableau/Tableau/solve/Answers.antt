use Rattle.std.proofs.Common.{rules}
use Rattle.strict_solver.proofs.Meaning.{meaning_of}
use Rattle.strict_solver.proofs.tableau.Tableau.solve.Goals as goal

pub returns-clause-meaning : goal.returns-clause-meaning
returns-clause-meaning c = meaning_of _ _ c.args.width _ _ c.requires.folds (search rules)
