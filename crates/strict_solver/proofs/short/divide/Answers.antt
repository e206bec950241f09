use Rattle.std.proofs.Common.{◌≡◌, ◌^◌, ◌<◌, ◌*ℤ◌, length-set, ap, ◌∙◌, arith, to_z, of_z, w64, unsigned_abs}
use Rattle.std.specs.Int.Signed.{quot_z}
use Rattle.strict_solver.specs.Rows.{number}
use Rattle.strict_solver.proofs.Rows.{set_next, set_rest, exact_quotient}
use Rattle.strict_solver.proofs.ShortRows.{word64, quotient_small}
use Rattle.strict_solver.proofs.short.divide.Goals as goal

pub loop-number-preserved : goal.loop-number-preserved
loop-number-preserved c =
    let i = c.loop-number.number-index in
    let numbers = c.loop-number.numbers in
    let old = c.args.numbers.now in
    let divisor = c.args.divisor in
    let same : number numbers i ≡ number old i = c.loop-number.invariant.2 i (omega arith) in
    let word : to_z w64 (of_z w64 divisor) ≡ divisor = word64 divisor c.requires.size in
    let taken : to_z w64 (of_z w64 (number numbers i)) ≡ number old i = ap (λ z. to_z w64 (of_z w64 z)) same ∙ word64 (number old i) (c.requires.sizes i) in
    let whole : divisor *ℤ quot_z (number old i) divisor ≡ number old i = exact_quotient divisor (number old i) c.requires.positive (c.requires.divides i) in
    let small : unsigned_abs (quot_z (number old i) divisor) < 2 ^ 63 = quotient_small divisor _ (number old i) (2 ^ 63) c.requires.positive whole (c.requires.sizes i) in
    let new = to_z w64 (of_z w64 (quot_z (to_z w64 (of_z w64 (number numbers i))) (to_z w64 (of_z w64 divisor)))) in
    let is : to_z w64 (of_z w64 (quot_z (to_z w64 (of_z w64 (number numbers i))) (to_z w64 (of_z w64 divisor)))) ≡ quot_z (number old i) divisor =
    (λ t. to_z w64 (of_z w64 (quot_z (taken t) (word t)))) ∙ word64 (quot_z (number old i) divisor) small in (
      length-set numbers i _ ∙ c.loop-number.invariant.0,
      set_next numbers i new (λ j z. to_z w64 (of_z w64 divisor) *ℤ z ≡ number old j) (omega arith) ((λ t. word t *ℤ is t) ∙ whole) c.loop-number.invariant.1,
      set_rest numbers i new (λ j z. z ≡ number old j) c.loop-number.invariant.2,
    )
