use Rattle.std.proofs.Common.{◌≡◌, ℤ, ◌^◌, ◌<◌, ◌∙◌, sym, ap, subst, arith, pos, to_z, of_z, w64, unsigned_abs, FitsSigned}
use Rattle.std.specs.Int.{IsGcd}
use Rattle.std.specs.Int.Signed.{quot_z}
use Rattle.std.proofs.lemmas.Int.{ints, to_z_pos, fits_signed_from_abs}
use Rattle.ntfe_nums.proofs.Ring.{one_product}
use Rattle.strict_solver.specs.declared.short.Shares.{Shares}
use Rattle.strict_solver.specs.ShortRows.{AreShares}
use Rattle.strict_solver.proofs.ShortRows.{word64, common_some, common_small, shares_of, one_word}
use Rattle.strict_solver.proofs.short.share_out.Goals as goal
use Rattle.strict_solver.proofs.short.share_out.Goals.{After-divisor-shared}

module _ (c : After-divisor-shared) where
  d : to_z w64 (of_z w64 c.args.denominator) ≡ c.args.denominator
  d = word64 c.args.denominator (let h = c.requires.denominator in omega arith)

  f : to_z w64 (of_z w64 c.args.factor) ≡ c.args.factor
  f = word64 c.args.factor (let h = c.requires.factor in omega arith)

  common : IsGcd (unsigned_abs c.args.factor) (unsigned_abs c.args.denominator) c.divisor-shared.result
  common =
      let P : ℤ → Type 0 = λ z. IsGcd (unsigned_abs z) (unsigned_abs c.args.denominator) c.divisor-shared.result in
      subst P f (let Q : ℤ → Type 0 = λ z. IsGcd (unsigned_abs (to_z w64 (of_z w64 c.args.factor))) (unsigned_abs z) c.divisor-shared.result in
      subst Q d (rw (sym c.unsigned_abs.ensures.value) (rw (sym c.unsigned_abs-2.ensures.value) c.divisor-shared.ensures)))

  some : 0 < c.divisor-shared.result
  some = common_some c.args.denominator c.args.factor c.divisor-shared.result c.requires.positive common

  small : c.divisor-shared.result < 2 ^ 62
  small = let h = common_small c.args.denominator c.args.factor c.divisor-shared.result c.requires.positive common in let i = c.requires.denominator in omega arith

  word : to_z w64 c.divisor-shared.result ≡ pos c.divisor-shared.result
  word = let h = small in to_z_pos w64 c.divisor-shared.result (omega arith)

  are : AreShares c.args.denominator c.args.factor (record { row = quot_z c.args.denominator (pos c.divisor-shared.result); pivot = quot_z c.args.factor (pos c.divisor-shared.result) })
  are = shares_of c.args.denominator c.args.factor c.divisor-shared.result c.requires.positive c.requires.denominator c.requires.factor common

  row : quot_z (to_z w64 (of_z w64 c.args.denominator)) (to_z w64 c.divisor-shared.result) ≡ quot_z c.args.denominator (pos c.divisor-shared.result)
  row i = quot_z (d i) (word i)

  pivot : quot_z (to_z w64 (of_z w64 c.args.factor)) (to_z w64 c.divisor-shared.result) ≡ quot_z c.args.factor (pos c.divisor-shared.result)
  pivot i = quot_z (f i) (word i)

pub returns-then-denominator-eq1 : goal.returns-then-denominator-eq1
returns-then-denominator-eq1 c =
    let f : to_z w64 (of_z w64 c.args.factor) ≡ c.args.factor = word64 c.args.factor (let h = c.requires.factor in omega arith) in
    let e : pos 1 ≡ c.args.denominator = one_word c.args.denominator c.requires.denominator c.if-denominator-eq1.true in
    record {
      common = 1;
      some = omega arith;
      row = e;
      pivot = one_product (to_z w64 (of_z w64 c.args.factor)) ∙ f;
      positive = omega (arith, ints);
      row_small = omega arith;
      pivot_small = subst (λ z. unsigned_abs z < 2 ^ 62) (sym f) c.requires.factor;
    }

pub overflow_cast-shared : goal.overflow_cast-shared
overflow_cast-shared c = let h = small (goal.at.overflow_cast-shared c).After-divisor-shared in fits_signed_from_abs w64 (pos c.divisor-shared.result) (omega arith)

pub nonzero_div-result : goal.nonzero_div-result
nonzero_div-result c =
    let s = (goal.at.nonzero_div-result c).After-divisor-shared in
    let h = (are s).row_small in
    (some s, subst (FitsSigned w64) (sym (row s)) (fits_signed_from_abs w64 _ (omega arith)))

pub nonzero_div-result-2 : goal.nonzero_div-result-2
nonzero_div-result-2 c =
    let s = (goal.at.nonzero_div-result-2 c).After-divisor-shared in
    let h = (are s).pivot_small in
    (some s, subst (FitsSigned w64) (sym (pivot s)) (fits_signed_from_abs w64 _ (omega arith)))

pub returns : goal.returns
returns c =
    let s = (goal.at.returns c).After-divisor-shared in
    let a : to_z w64 (of_z w64 (quot_z (to_z w64 (of_z w64 c.args.denominator)) (to_z w64 c.divisor-shared.result))) ≡ quot_z c.args.denominator (pos c.divisor-shared.result) =
    ap (λ z. to_z w64 (of_z w64 z)) (row s) ∙ word64 _ (let h = (are s).row_small in omega arith) in
    let b : to_z w64 (of_z w64 (quot_z (to_z w64 (of_z w64 c.args.factor)) (to_z w64 c.divisor-shared.result))) ≡ quot_z c.args.factor (pos c.divisor-shared.result) =
    ap (λ z. to_z w64 (of_z w64 z)) (pivot s) ∙ word64 _ (let h = (are s).pivot_small in omega arith) in
    let P : Shares → Type 0 = λ z. AreShares c.args.denominator c.args.factor z in
    let e : record { row = quot_z c.args.denominator (pos c.divisor-shared.result); pivot = quot_z c.args.factor (pos c.divisor-shared.result) } ≡ record { row = to_z w64 (of_z w64 (quot_z (to_z w64 (of_z w64 c.args.denominator)) (to_z w64 c.divisor-shared.result))); pivot = to_z w64 (of_z w64 (quot_z (to_z w64 (of_z w64 c.args.factor)) (to_z w64 c.divisor-shared.result))) } = λ i. record { row = sym a i; pivot = sym b i } in
    subst P e (are s)
