use Rattle.std.proofs.Common.{◌-◌}
use Rattle.choice_board.specs.Rows.{IsBetween}
use Rattle.choice_board.proofs.rows.find.Given as goal

abbrev pub invariant-loop-low : goal.invariant-loop-low
invariant-loop-low g l = IsBetween g.T.Keyed.key_of l.row.items l.numbers l.low l.high

abbrev pub decreases-loop-low : goal.decreases-loop-low
decreases-loop-low g l = l.high - l.low
