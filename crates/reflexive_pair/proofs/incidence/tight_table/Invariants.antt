use Rattle.std.proofs.Common.{ℕ, ◌≡◌, ◌<◌, length, get_or}
use Rattle.ntfe_model.specs.Reflexive.{at}
use Rattle.ntfe_model.specs.TightBits.{AreTightBits}
use Rattle.reflexive_pair.proofs.incidence.tight_table.Given as goal

abbrev pub invariant-loop-i : goal.invariant-loop-i
invariant-loop-i l = record {
  room : length l.table ≡ 64;
  filled : (k : ℕ) → k < l.i → AreTightBits (at l.vertices k) l.dual (length l.dual) (get_or l.table k 0);
}
