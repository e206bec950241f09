use Rattle.std.proofs.Common.{◌≡◌, take, pos, ◌≤ℤ◌, get_or}
use Rattle.std.specs.Prelude.{All, Any}
use Rattle.ntfe_nums.specs.Vectors.{numbers}
use Rattle.lattice_points.proofs.bounds.extent_at.Given as goal

abbrev pub invariant-loop-v : goal.invariant-loop-v
invariant-loop-v l = record {
  least : All (λ v. l.low ≤ℤ get_or (numbers v) l.place (pos 0)) (take l.v-index l.vectors);
  greatest : All (λ v. get_or (numbers v) l.place (pos 0) ≤ℤ l.high) (take l.v-index l.vectors);
  lowest : Any (λ v. get_or (numbers v) l.place (pos 0) ≡ l.low) l.vectors;
  highest : Any (λ v. get_or (numbers v) l.place (pos 0) ≡ l.high) l.vectors;
}
