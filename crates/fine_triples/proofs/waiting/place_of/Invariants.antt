use Rattle.std.proofs.Common.{◌≡◌, ℕ, ◌<◌, false, get_or}
use Rattle.ntfe_model.specs.Words.{is_before}
use Rattle.fine_triples.proofs.waiting.place_of.Given as goal

abbrev pub invariant-loop-i : goal.invariant-loop-i
invariant-loop-i l = (k : ℕ) → k < l.i → is_before l.step (get_or l.waiting k (0, 0)) ≡ false
