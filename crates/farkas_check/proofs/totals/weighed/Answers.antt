use Rattle.std.proofs.Common.{◌≡◌, ◌≤◌, ◌^◌, ◌*ℤ◌, ap, ◌∙◌, sym, subst, refl, arith, rules, ℕ, ℤ, List, [], ◌∷◌, FitsSigned, to_z, of_z, to_z-of_z, w64, unsigned_abs}
use Rattle.std.specs.Int.{w128}
use Rattle.std.specs.Int.Signed.{nat_abs-le}
use Rattle.ntfe_nums.proofs.Ring.{Expression}
use Rattle.ntfe_nums.proofs.Ring.Expression.{var, times}
use Rattle.ntfe_nums.proofs.Machine.{AreBounded, back, exact, fits, value-size}
use Rattle.farkas_check.proofs.totals.weighed.Goals as goal

abbrev bounds : List ℕ
bounds = 2 ^ 63 ∷ 8190 ∷ []

abbrev productE : Expression
productE = times (var 0) (var 1)

-- a multiplier m and a coefficient k, as they come from words of 64 bits
module _ (m k x y : ℤ) (f : FitsSigned w64 m) (s : unsigned_abs k ≤ 8190) (ex : x ≡ to_z w64 (of_z w64 m)) (ey : y ≡ to_z w64 (of_z w64 k)) where
  first : x ≡ m
  first = ex ∙ to_z-of_z f

  second : y ≡ k
  second = ey ∙ back w64 k 8190 s (omega arith)

  bounded : AreBounded (x ∷ y ∷ []) bounds
  bounded =
      let l = nat_abs-le m f.sfits in
      let e = ap unsigned_abs first in
      let d = ap unsigned_abs second in
      (omega (arith, l, e), (omega (arith, s, d), tt))

  product_fits : FitsSigned w128 (to_z w128 (of_z w128 x) *ℤ to_z w128 (of_z w128 y))
  product_fits = fits w128 (x ∷ y ∷ []) bounds bounded productE refl

  product_is : to_z w128 (of_z w128 (to_z w128 (of_z w128 x) *ℤ to_z w128 (of_z w128 y))) ≡ x *ℤ y
  product_is = exact w128 (x ∷ y ∷ []) bounds bounded productE refl

  product_size : unsigned_abs (x *ℤ y) ≤ 2 ^ 76
  product_size = let l = value-size (x ∷ y ∷ []) bounds productE bounded in omega (arith, l)

pub overflow_mul-result : goal.overflow_mul-result
overflow_mul-result c =
    let f : FitsSigned w64 c.args.term.now.times = search rules in
    product_fits c.args.term.now.times c.coefficient-one.result c.from.result c.from-2.result f c.coefficient-one.ensures.size c.from.ensures c.from-2.ensures

pub returns : goal.returns
returns c =
    let f : FitsSigned w64 c.args.term.now.times = search rules in
    let m = c.args.term.now.times in
    let k = c.coefficient-one.result in
    let s = c.coefficient-one.ensures.size in
    let p = product_is m k c.from.result c.from-2.result f s c.from.ensures c.from-2.ensures in
    let a = first m k c.from.result c.from-2.result f s c.from.ensures c.from-2.ensures in
    let b = second m k c.from.result c.from-2.result f s c.from.ensures c.from-2.ensures ∙ c.coefficient-one.ensures.value in
    let P : ℤ → Type 0 = λ z. unsigned_abs z ≤ 2 ^ 76 in
    record {
      value = p ∙ (λ t. a t *ℤ b t);
      size = subst P (sym p) (product_size m k c.from.result c.from-2.result f s c.from.ensures c.from-2.ensures);
    }
