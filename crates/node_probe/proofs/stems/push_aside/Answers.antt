use Rattle.std.proofs.Common.{◌+◌, sym, refl, Bool, get_or, Result, Ok, Err, IfOk}
use Rattle.std.specs.declared.alloc.AllocError.{AllocError}
use Rattle.strict_solver.specs.declared.stem.Pushed.{Pushed}
use Rattle.strict_solver.specs.Pushes.{HasPushed, HasExtended}
use Rattle.strict_solver.proofs.Elimination.{at_place}
use Rattle.strict_solver.proofs.Extending.{no_fold}
use Rattle.node_probe.proofs.StemLemmas.{gone_one}
use Rattle.node_probe.proofs.stems.push_aside.Goals as goal

pub push_aside-requires-clause-fold : goal.push_aside-requires-clause-fold
push_aside-requires-clause-fold c = c.requires.folds.each c.args.row _ (at_place c.args.folds.now c.args.row no_fold _ c.requires.row refl)

pub returns-clause-extended : goal.returns-clause-extended
returns-clause-extended c = by c.push_aside.result c.push_aside.ensures.pushed
  where
    by : (r : Result (Pushed × Bool) AllocError) → IfOk r (λ r. HasPushed c.args.stem.now c.push_aside.new.self (get_or c.args.folds.now c.args.row no_fold) r.0) → IfOk r (λ r. HasExtended c.push_aside.new.self c.args.folds.now (c.args.row + 1) r.0)
    by (Ok r) h = gone_one c.args.folds.now c.args.row (get_or c.args.folds.now c.args.row no_fold) c.args.stem.now c.push_aside.new.self r.0 c.requires.row refl (sym c.push_aside.ensures.columns) c.requires.known h
    by (Err x) h = tt
