use Rattle.std.proofs.Common.{◌≡◌, ℕ, ◌∙◌, sym, ap, refl, subst, arith, Bool, true, false, ℤ, pos, ◌^◌, ◌<◌, ◌*ℤ◌, ◌+ℤ◌, ◌<ℤ◌, List, set, length-set, to_z, unsigned_abs, MatchBool}
use Rattle.std.specs.Int.{w128, ◌∣◌}
use Rattle.std.proofs.lemmas.Int.{ints, to_z_pos, fits_signed_from_abs}
use Rattle.ntfe_nums.proofs.Ring.{one_product}
use Rattle.strict_solver.specs.Rows.{number, AreNarrow, IsWideRow, IsCombination}
use Rattle.strict_solver.proofs.Rows.{unwrap64}
use Rattle.strict_solver.proofs.Combine.{AreSums, first_some, divisor_positive, divisor_small, combined}
use Rattle.strict_solver.proofs.row.eliminate_long.Goals as goal
use Rattle.strict_solver.proofs.row.eliminate_long.Goals.{then-divisor-ne1, else-divisor-ne1, After-common_divisor-divisor}

module _ (c : After-common_divisor-divisor) where
  sums : AreSums c.args.row.now c.args.pivot.now.column c.args.pivot.now.numbers.items c.args.pivot.now.denominator c.combine.new.out
  sums j =
      c.combine.ensures.each j
      ∙ ap (λ f. number (set c.args.row.now c.args.pivot.now.column (pos 0)) j *ℤ c.args.pivot.now.denominator +ℤ f *ℤ number c.args.pivot.now.numbers.items j)
      (unwrap64 (number c.args.row.now c.args.pivot.now.column) (c.requires.row.narrow.each c.args.pivot.now.column))

  some : 0 < unsigned_abs (number c.combine.new.out 0)
  some = first_some c.args.row.now c.args.pivot.now.column c.args.pivot.now.numbers.items c.args.pivot.now.denominator c.combine.new.out c.requires.after c.requires.row.positive c.requires.positive c.requires.first sums

  positive : 0 < c.common_divisor-divisor.result
  positive = divisor_positive c.combine.new.out c.common_divisor-divisor.result some c.common_divisor-divisor.ensures

  small : c.common_divisor-divisor.result < 2 ^ 126
  small = let h = divisor_small c.combine.new.out c.common_divisor-divisor.result some c.common_divisor-divisor.ensures in let i = c.combine.ensures.size 0 in omega arith

  word : to_z w128 c.common_divisor-divisor.result ≡ pos c.common_divisor-divisor.result
  word = let h = small in to_z_pos w128 c.common_divisor-divisor.result (omega arith)

pub overflow_cast-divisor : goal.overflow_cast-divisor
overflow_cast-divisor c = let h = small (goal.at.overflow_cast-divisor c).After-common_divisor-divisor in fits_signed_from_abs w128 (pos c.common_divisor-divisor.result) (omega arith)

pub divide-requires-clause-positive : goal.divide-requires-clause-positive
divide-requires-clause-positive c =
    let s = (goal.at.divide-requires-clause-positive c).After-common_divisor-divisor in
    let h = positive s in
    subst (λ z. pos 0 <ℤ z) (sym (word s)) (omega (arith, ints))

pub divide-requires-clause-size : goal.divide-requires-clause-size
divide-requires-clause-size c =
    let s = (goal.at.divide-requires-clause-size c).After-common_divisor-divisor in
    subst (λ z. unsigned_abs z < 2 ^ 126) (sym (word s)) (small s)

pub divide-requires-clause-divides : goal.divide-requires-clause-divides
divide-requires-clause-divides c =
    let s = (goal.at.divide-requires-clause-divides c).After-common_divisor-divisor in
    λ k. subst (λ z. unsigned_abs z ∣ unsigned_abs (number c.combine.new.out k)) (sym (word s)) (c.common_divisor-divisor.ensures.divides k)

-- what is stored is the form, or the form is wide
answer : (b : Bool) (row new scratch : List ℤ) (width p : ℕ) (piv : List ℤ) (den : ℤ) → IsCombination row p piv den scratch → MatchBool b ((new ≡ scratch) × AreNarrow width new) (IsWideRow width scratch)
    → MatchBool b (IsCombination row p piv den new × AreNarrow width new) (IsCombination row p piv den scratch × IsWideRow width scratch)
answer true row new scratch width p piv den h i = (subst (λ r. IsCombination row p piv den r) (sym i.0) h, i.1)
answer false row new scratch width p piv den h i = (h, i)

pub returns-clause-answer : goal.returns-clause-answer
returns-clause-answer c =
    let s = (goal.at.returns-clause-answer c).After-common_divisor-divisor in
    let old = c.args.row.now in
    let p = c.args.pivot.now.column in
    let piv = c.args.pivot.now.numbers.items in
    let den = c.args.pivot.now.denominator in
    let g = c.common_divisor-divisor.result in
    let P : List ℤ → Type 0 = λ r. IsCombination old p piv den r in
    let form : IsCombination old p piv den c.if-divisor-ne1.scratch =
    elim c.if-divisor-ne1.branch [
      | then-divisor-ne1 w ↦
          subst P (sym w.scratch-is)
          (combined old p piv den c.combine.new.out w.divide.new.numbers g (sums s) c.common_divisor-divisor.ensures (positive s) (c.combine.ensures.count ∙ length-set old p (pos 0)) w.divide.ensures.count
          (λ j. ap (λ z. z *ℤ number w.divide.new.numbers j) (sym (word s)) ∙ w.divide.ensures.each j))
      | else-divisor-ne1 w ↦
          subst P (sym w.scratch-is)
          (combined old p piv den c.combine.new.out c.combine.new.out g (sums s) c.common_divisor-divisor.ensures (positive s) (c.combine.ensures.count ∙ length-set old p (pos 0)) refl
          (λ j. ap (λ n. pos n *ℤ number c.combine.new.out j) w.if-divisor-ne1.false ∙ one_product (number c.combine.new.out j)))
    ] in
    answer c.store.result old c.store.new.row c.if-divisor-ne1.scratch c.args.width p piv den form c.store.ensures
