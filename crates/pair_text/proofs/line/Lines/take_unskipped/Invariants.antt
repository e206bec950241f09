use Rattle.std.proofs.Common.{◌≡◌, length}
use Rattle.pair_text.specs.Cursors.{lines_left, AreFew}
use Rattle.pair_text.proofs.line.Lines.take_unskipped.Given as goal

-- the lines so far were skipped
abbrev pub invariant-loop-self : goal.invariant-loop-self
invariant-loop-self l = record { few : AreFew l.self; same : lines_left l.fn.self ≡ lines_left l.self }

abbrev pub decreases-loop-self : goal.decreases-loop-self
decreases-loop-self l = length l.self.rest.now
