use Rattle.std.proofs.Common.{◌≡◌, ◌^◌, ◌<◌, ◌*ℤ◌, ◌<ℤ◌, refl, sym, ap, ◌∙◌, subst, arith, pos, to_z, w64, unsigned_abs}
use Rattle.std.specs.Int.{◌∣◌}
use Rattle.std.proofs.lemmas.Int.{ints, to_z_pos, fits_signed_from_abs}
use Rattle.ntfe_nums.proofs.Ring.{one_product}
use Rattle.strict_solver.specs.Rows.{number}
use Rattle.strict_solver.proofs.Combine.{divisor_positive, divisor_small, lowered}
use Rattle.strict_solver.proofs.short.lower.Goals as goal
use Rattle.strict_solver.proofs.short.lower.Goals.{After-common_divisor-common}

module _ (c : After-common_divisor-common) where
  positive : 0 < c.common_divisor-common.result
  positive = divisor_positive c.args.row.now c.common_divisor-common.result c.requires.some c.common_divisor-common.ensures

  small : c.common_divisor-common.result < 2 ^ 63
  small = let h = divisor_small c.args.row.now c.common_divisor-common.result c.requires.some c.common_divisor-common.ensures in let i = c.requires.sizes 0 in omega arith

  word : to_z w64 c.common_divisor-common.result ≡ pos c.common_divisor-common.result
  word = let h = small in to_z_pos w64 c.common_divisor-common.result (omega arith)

pub overflow_cast-common : goal.overflow_cast-common
overflow_cast-common c = let h = small (goal.at.overflow_cast-common c).After-common_divisor-common in fits_signed_from_abs w64 (pos c.common_divisor-common.result) (omega arith)

pub divide-requires-clause-positive : goal.divide-requires-clause-positive
divide-requires-clause-positive c =
    let s = (goal.at.divide-requires-clause-positive c).After-common_divisor-common in
    let h = positive s in
    subst (λ z. pos 0 <ℤ z) (sym (word s)) (omega (arith, ints))

pub divide-requires-clause-size : goal.divide-requires-clause-size
divide-requires-clause-size c =
    let s = (goal.at.divide-requires-clause-size c).After-common_divisor-common in
    subst (λ z. unsigned_abs z < 2 ^ 63) (sym (word s)) (small s)

pub divide-requires-clause-divides : goal.divide-requires-clause-divides
divide-requires-clause-divides c =
    let s = (goal.at.divide-requires-clause-divides c).After-common_divisor-common in
    λ k. subst (λ z. unsigned_abs z ∣ unsigned_abs (number c.args.row.now k)) (sym (word s)) (c.common_divisor-common.ensures.divides k)

pub returns-then-common-ne1 : goal.returns-then-common-ne1
returns-then-common-ne1 c =
    let s = (goal.at.returns-then-common-ne1 c).After-common_divisor-common in
    lowered c.args.row.now c.divide.new.numbers c.common_divisor-common.result c.common_divisor-common.ensures (positive s) c.divide.ensures.count
    (λ j. ap (λ z. z *ℤ number c.divide.new.numbers j) (sym (word s)) ∙ c.divide.ensures.each j)

pub returns-else-common-ne1 : goal.returns-else-common-ne1
returns-else-common-ne1 c =
    let s = (goal.at.returns-else-common-ne1 c).After-common_divisor-common in
    lowered c.args.row.now c.args.row.now c.common_divisor-common.result c.common_divisor-common.ensures (positive s) refl
    (λ j. ap (λ n. pos n *ℤ number c.args.row.now j) c.if-common-ne1.false ∙ one_product (number c.args.row.now j))
