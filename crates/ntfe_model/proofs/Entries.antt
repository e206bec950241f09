-- The entries of a list of vectors, by their numbers from 1 and by their places from 0.
use Rattle.std.proofs.Common.{◌≡◌, ℕ, ◌+◌, ◌-◌, ap, arith, List}
use Rattle.ntfe_nums.specs.Vectors.{Vector}
use Rattle.ntfe_model.specs.Pairs.{entry}
use Rattle.ntfe_model.specs.Reflexive.{at}

pub entry-at : (vs : List Vector) (i : ℕ) → entry vs (i + 1) ≡ at vs i
entry-at vs i = let e : (i + 1) - 1 ≡ i = omega arith in ap (at vs) e
