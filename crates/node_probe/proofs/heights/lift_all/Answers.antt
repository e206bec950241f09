use Rattle.std.proofs.Common.{refl, subst, pos, ◌<ℤ◌, List}
use Rattle.std.specs.Prelude.{All}
use Rattle.std.proofs.lemmas.List.{take_all}
use Rattle.std.proofs.lemmas.List.Elements.{All-more}
use Rattle.ntfe_model.specs.Choices.{fold_value}
use Rattle.ntfe_model.specs.declared.nogood.Fold.{Fold}
use Rattle.node_probe.proofs.heights.lift_all.Goals as goal

pub loop-fold-preserved : goal.loop-fold-preserved
loop-fold-preserved c =
    let P : Fold → Type 0 = λ r. pos 0 <ℤ fold_value c.args.heights.now r in
    let none : Fold = record { a = 0; b = 0; c = 0; d = 0; alpha = pos 0; beta = pos 0 } in
    All-more P c.args.folds.now c.loop-fold.fold-index none c.loop-fold-test.true c.loop-fold.invariant (c.if-not-lift.ensures.when_true refl)

pub returns-clause-when_true : goal.returns-clause-when_true
returns-clause-when_true c = λ e.
    let P : List Fold → Type 0 = All (λ r. pos 0 <ℤ fold_value c.args.heights.now r) in
    subst P (take_all c.loop-fold.fold-index c.args.folds.now c.loop-fold-test.false) c.loop-fold.invariant
