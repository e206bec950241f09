use Rattle.std.proofs.Common.{◌≡◌, ℤ, ◌^◌, ◌<◌, ◌-ℤ◌, neg_ℤ, length-set, ◌∙◌, arith, to_z, of_z, w64, pos, unsigned_abs}
use Rattle.std.proofs.lemmas.Int.{ints}
use Rattle.strict_solver.specs.Rows.{number}
use Rattle.strict_solver.proofs.Rows.{unwrap64, set_next, set_rest}
use Rattle.strict_solver.proofs.row.negate.Goals as goal

negated : (x y : ℤ) → x ≡ y → unsigned_abs y < 2 ^ 62 → to_z w64 (of_z w64 (pos 0 -ℤ to_z w64 (of_z w64 x))) ≡ neg_ℤ y
negated x y e h =
    let small : unsigned_abs (pos 0 -ℤ y) < 2 ^ 62 = omega (arith, ints) in
    let f : pos 0 -ℤ y ≡ neg_ℤ y = omega (arith, ints) in
    (λ i. to_z w64 (of_z w64 (pos 0 -ℤ to_z w64 (of_z w64 (e i))))) ∙ (λ i. to_z w64 (of_z w64 (pos 0 -ℤ unwrap64 y h i))) ∙ unwrap64 _ small ∙ f

pub loop-number-preserved : goal.loop-number-preserved
loop-number-preserved c =
    let i = c.loop-number.number-index in
    let row = c.loop-number.row in
    let old = c.args.row.now in
    let word = to_z w64 (of_z w64 (pos 0 -ℤ to_z w64 (of_z w64 (number row i)))) in (
      length-set row i _ ∙ c.loop-number.invariant.0,
      set_next row i word (λ j z. z ≡ neg_ℤ (number old j)) (omega arith) (negated _ _ (c.loop-number.invariant.2 i (omega arith)) (c.requires.each i)) c.loop-number.invariant.1,
      set_rest row i word (λ j z. z ≡ number old j) c.loop-number.invariant.2,
    )
