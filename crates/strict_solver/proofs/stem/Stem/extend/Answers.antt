use Rattle.std.proofs.Common.{◌∙◌, ℕ, arith, ap, sym, refl, subst, take, get_or, Some}
use Rattle.strict_solver.specs.declared.stem.Pushed.{Pushed}
use Rattle.strict_solver.specs.Starts.{IsFoldOver}
use Rattle.strict_solver.specs.Pushes.{HasPushed}
use Rattle.strict_solver.proofs.Elimination.{at_place}
use Rattle.strict_solver.proofs.Extending.{no_fold, take_more, cancel_more}
use Rattle.strict_solver.proofs.stem.Stem.extend.Goals as goal

pub push-requires-clause-fold : goal.push-requires-clause-fold
push-requires-clause-fold c =
    let f = get_or c.args.folds.now c.loop-k.k no_fold in
    let P : ℕ → Type 0 = λ n. IsFoldOver n f in
    subst P (sym c.loop-k.invariant.0) (c.requires.folds.each c.loop-k.k f (at_place c.args.folds.now c.loop-k.k no_fold f (omega arith) refl))

pub returns-in-Infeasible-clause-extended : goal.returns-in-Infeasible-clause-extended
returns-in-Infeasible-clause-extended c =
    let f = get_or c.args.folds.now c.loop-k.k no_fold in
    let k = c.loop-k.k in
    let P : Pushed → Type 0 = λ p. HasPushed c.loop-k.self c.push.new.self f p in
    let h = subst P c.in-Infeasible.is c.in_ok-push.ensures.pushed in
    cancel_more c.loop-k.self.columns c.push.new.self.columns c.args.folds.now k no_fold c.push.new.self.multipliers (sym c.in_ok-push.ensures.columns) (omega arith) (h (take k c.args.folds.now) c.loop-k.invariant.1)

pub loop-k-preserved : goal.loop-k-preserved
loop-k-preserved c =
    let f = get_or c.args.folds.now c.loop-k.k no_fold in
    let k = c.loop-k.k in
    let P : Pushed → Type 0 = λ p. HasPushed c.loop-k.self c.push.new.self f p in
    let h = subst P c.in-Feasible.is c.in_ok-push.ensures.pushed in
    (c.in_ok-push.ensures.columns ∙ c.loop-k.invariant.0, h (take k c.args.folds.now) c.loop-k.invariant.1 ∙ ap Some (sym (take_more c.args.folds.now k no_fold (omega arith))))
