use Rattle.std.proofs.Common.{ℕ, ℤ, ◌^◌, List, refl, sym, subst, arith, unsigned_abs, ◌≤◌, w64}
use Rattle.ntfe_nums.specs.Sizes.{AreWithin}
use Rattle.ntfe_nums.proofs.Ring.Expression.{plus}
use Rattle.ntfe_nums.proofs.DetLemmas.{dotE, row}
use Rattle.ntfe_nums.proofs.FourTerms.{vars, bounds, bounded, part, sum2}
use Rattle.ntfe_nums.proofs.Machine.{AreBounded, exact, fits, value-size}
use Rattle.ntfe_nums.proofs.planes.short_product.Goals as goal

abbrev limits : List ℕ
limits = bounds (2 ^ 36) 1023

abbrev within : (xs ys : List ℤ) → AreWithin (2 ^ 36) xs → AreWithin 1023 ys → AreBounded (vars xs ys) limits
within = bounded (2 ^ 36) 1023

pub overflow_mul-result : goal.overflow_mul-result
overflow_mul-result c = fits w64 (vars c.args.n.now c.args.x.now) limits (within _ _ c.requires.large c.requires.small) (part 0 4) refl

pub overflow_mul-result-2 : goal.overflow_mul-result-2
overflow_mul-result-2 c = fits w64 (vars c.args.n.now c.args.x.now) limits (within _ _ c.requires.large c.requires.small) (part 1 5) refl

pub overflow_add-result : goal.overflow_add-result
overflow_add-result c = fits w64 (vars c.args.n.now c.args.x.now) limits (within _ _ c.requires.large c.requires.small) sum2 refl

pub overflow_mul-result-3 : goal.overflow_mul-result-3
overflow_mul-result-3 c = fits w64 (vars c.args.n.now c.args.x.now) limits (within _ _ c.requires.large c.requires.small) (part 2 6) refl

pub overflow_add-result-2 : goal.overflow_add-result-2
overflow_add-result-2 c = fits w64 (vars c.args.n.now c.args.x.now) limits (within _ _ c.requires.large c.requires.small) (plus sum2 (part 2 6)) refl

pub overflow_mul-result-4 : goal.overflow_mul-result-4
overflow_mul-result-4 c = fits w64 (vars c.args.n.now c.args.x.now) limits (within _ _ c.requires.large c.requires.small) (part 3 7) refl

pub overflow_add-result-3 : goal.overflow_add-result-3
overflow_add-result-3 c = fits w64 (vars c.args.n.now c.args.x.now) limits (within _ _ c.requires.large c.requires.small) (dotE (row 0) (row 4)) refl

pub returns-clause-value : goal.returns-clause-value
returns-clause-value c =
    exact w64 (vars c.args.n.now c.args.x.now) limits (within _ _ c.requires.large c.requires.small) (dotE (row 0) (row 4)) refl

pub returns-clause-size : goal.returns-clause-size
returns-clause-size c =
    let vs = vars c.args.n.now c.args.x.now in
    let h = within _ _ c.requires.large c.requires.small in
    let s = value-size vs limits (dotE (row 0) (row 4)) h in
    let P : ℤ → Type 0 = λ z. unsigned_abs z ≤ 2 ^ 48 in
    subst P (sym (exact w64 vs limits h (dotE (row 0) (row 4)) refl)) (omega (arith, s))
