use Rattle.std.proofs.Common.{◌≡◌, length}
use Rattle.std.specs.List.{AllZip}
use Rattle.ntfe_model.specs.PairText.{IsVectorLine}
use Rattle.pair_text.specs.Cursors.{AreFew, Takes}
use Rattle.pair_text.proofs.reading.read_vectors.Given as goal

-- each line so far gave a vector
abbrev pub invariant-loop : goal.invariant-loop
invariant-loop l = record {
  few : AreFew l.lines;
  takes : Takes (λ taken. AllZip IsVectorLine taken l.vectors.items) l.fn.lines l.lines;
  count : length l.vectors.items ≡ l.counter;
}
