use Rattle.std.proofs.Common.{[], take}
use Rattle.std.specs.Prelude.{Contains}
use Rattle.ntfe_model.specs.Charts.{spot_numbers}
use Rattle.fold_rows.specs.Rows.{AddsFolds}
use Rattle.fold_rows.proofs.edges.folds.Given as goal

abbrev pub invariant-loop-a : goal.invariant-loop-a
invariant-loop-a l = AddsFolds l.chart l.item (λ i j. Contains (take l.a-index (spot_numbers l.chart)) i) [] l.folds.items
