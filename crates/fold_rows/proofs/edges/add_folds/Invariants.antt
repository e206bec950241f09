use Rattle.std.proofs.Common.{◌≡◌, take}
use Rattle.std.specs.Prelude.{Contains}
use Rattle.ntfe_model.specs.Charts.{spot_numbers}
use Rattle.fold_rows.specs.Rows.{AddsFolds}
use Rattle.fold_rows.proofs.edges.add_folds.Given as goal

abbrev pub invariant-loop-b : goal.invariant-loop-b
invariant-loop-b l = AddsFolds l.chart l.item (λ i j. (i ≡ l.a) × Contains (take l.b-index (spot_numbers l.chart)) j) l.initial.folds.items l.folds.items
