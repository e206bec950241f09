use Rattle.std.proofs.Common.{◌≡◌, ℕ, ◌+◌, ◌*◌, ◌^◌, ◌<◌, ◌≤◌, ap, ◌∙◌, sym, subst, arith, ℤ, pos, ◌+ℤ◌, ◌*ℤ◌, List, length, get_or, take, FitsSigned, to_z, of_z, unsigned_abs}
use Rattle.std.specs.Int.{w128}
use Rattle.std.proofs.lemmas.Int.{ints, fits_signed_from_abs}
use Rattle.std.proofs.lemmas.List.Sums.{fold_more}
use Rattle.ntfe_nums.proofs.Machine.{back}
use Rattle.ntfe_model.specs.Certificates.{fold_coefficient, total_coefficient}
use Rattle.ntfe_model.specs.declared.nogood.Term.{Term}
use Rattle.farkas_check.proofs.totals.total.Goals as goal

-- one more term v on the sum s of i terms
module _ (s v : ℤ) (i : ℕ) (few : i < 2 ^ 32) (ls : unsigned_abs s ≤ i * 2 ^ 76) (lv : unsigned_abs v ≤ 2 ^ 76) where
  v_word : to_z w128 (of_z w128 v) ≡ v
  v_word = back w128 v (2 ^ 76) lv (omega arith)

  sum_size : unsigned_abs (s +ℤ v) ≤ (i + 1) * 2 ^ 76
  sum_size = omega (arith, ints, ls, lv)

  sum_small : unsigned_abs (s +ℤ v) < 2 ^ 127
  sum_small = let h = sum_size in omega (arith, few, h)

  raw_is : s +ℤ to_z w128 (of_z w128 v) ≡ s +ℤ v
  raw_is = ap (λ z. s +ℤ z) v_word

  sum_fits : FitsSigned w128 (s +ℤ to_z w128 (of_z w128 v))
  sum_fits = let P : ℤ → Type 0 = FitsSigned w128 in subst P (sym raw_is) (fits_signed_from_abs w128 (s +ℤ v) sum_small)

  sum_is : to_z w128 (of_z w128 (s +ℤ to_z w128 (of_z w128 v))) ≡ s +ℤ v
  sum_is = ap (λ z. to_z w128 (of_z w128 z)) raw_is ∙ back w128 (s +ℤ v) ((i + 1) * 2 ^ 76) sum_size (omega (arith, few))

next_sum : (ts : List Term) (k i : ℕ) (d : Term) (s v : ℤ) → i < length ts → s ≡ total_coefficient (take i ts) k → v ≡ (get_or ts i d).times *ℤ fold_coefficient (get_or ts i d).fold k
    → s +ℤ v ≡ total_coefficient (take (i + 1) ts) k
next_sum ts k i d s v l es ev = (λ t. es t +ℤ ev t) ∙ sym (fold_more (λ (z : ℤ) (t : Term). z +ℤ t.times *ℤ fold_coefficient t.fold k) (pos 0) ts i d l)

pub overflow_add-sum : goal.overflow_add-sum
overflow_add-sum c =
    let few = c.requires.few in
    let l = c.loop-term-test.true in
    sum_fits (to_z w128 c.loop-term.sum-bits) c.weighed-sum.result c.loop-term.term-index (omega (arith, few, l)) c.loop-term.invariant.size c.weighed-sum.ensures.size

pub loop-term-preserved : goal.loop-term-preserved
loop-term-preserved c =
    let few = c.requires.few in
    let l = c.loop-term-test.true in
    let s = to_z w128 c.loop-term.sum-bits in
    let v = c.weighed-sum.result in
    let i = c.loop-term.term-index in
    let inside : i < 2 ^ 32 = omega (arith, few, l) in
    let e = sum_is s v i inside c.loop-term.invariant.size c.weighed-sum.ensures.size in
    let P : ℤ → Type 0 = λ z. unsigned_abs z ≤ (i + 1) * 2 ^ 76 in
    record {
      sum_is = e ∙ next_sum c.args.terms.now c.args.point i _ s v l c.loop-term.invariant.sum_is c.weighed-sum.ensures.value;
      size = subst P (sym e) (sum_size s v i inside c.loop-term.invariant.size c.weighed-sum.ensures.size);
    }
