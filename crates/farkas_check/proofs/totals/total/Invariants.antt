use Rattle.std.proofs.Common.{◌≡◌, ◌≤◌, ◌*◌, ◌^◌, take, unsigned_abs}
use Rattle.ntfe_model.specs.Certificates.{total_coefficient}
use Rattle.farkas_check.proofs.totals.total.Given as goal

abbrev pub invariant-loop-term : goal.invariant-loop-term
invariant-loop-term l = record {
  sum_is : l.sum ≡ total_coefficient (take l.term-index l.terms) l.point;
  size : unsigned_abs l.sum ≤ l.term-index * 2 ^ 76;
}
