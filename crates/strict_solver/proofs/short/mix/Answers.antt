use Rattle.std.proofs.Common.{◌≡◌, ◌^◌, ◌<◌, ◌+ℤ◌, ◌*ℤ◌, length-set, sym, ap, ◌∙◌, subst, arith, unsigned_abs, to_z, of_z, w64, FitsSigned}
use Rattle.strict_solver.specs.Rows.{number}
use Rattle.strict_solver.proofs.Rows.{set_next, set_rest}
use Rattle.strict_solver.proofs.ShortRows.{word64, sum_small, sum_word, product_fits, sum_fits}
use Rattle.strict_solver.proofs.short.mix.Goals as goal

pub overflow_mul-row : goal.overflow_mul-row
overflow_mul-row c =
    let k = c.loop-k.k in
    let a = c.args.shares.now.row in
    subst (λ q. FitsSigned w64 (to_z w64 (of_z w64 q) *ℤ to_z w64 (of_z w64 a))) (sym (c.loop-k.invariant.3 k (omega arith)))
    (product_fits a (number c.args.row.now k) c.args.shares.now.pivot (number c.args.pivot.now k) (c.requires.short.each k) c.requires.first (c.requires.row.each k) c.requires.second (c.requires.pivot.each k))

pub overflow_add-row : goal.overflow_add-row
overflow_add-row c =
    let k = c.loop-k.k in
    let a = c.args.shares.now.row in
    let b = c.args.shares.now.pivot in
    let m = number c.args.pivot.now k in
    subst (λ q. FitsSigned w64 (to_z w64 (of_z w64 (to_z w64 (of_z w64 q) *ℤ to_z w64 (of_z w64 a))) +ℤ to_z w64 (of_z w64 (to_z w64 (of_z w64 b) *ℤ to_z w64 (of_z w64 m))))) (sym (c.loop-k.invariant.3 k (omega arith)))
    (sum_fits a (number c.args.row.now k) b m (c.requires.short.each k) c.requires.first (c.requires.row.each k) c.requires.second (c.requires.pivot.each k))

pub loop-k-preserved : goal.loop-k-preserved
loop-k-preserved c =
    let k = c.loop-k.k in
    let row = c.loop-k.row in
    let a = c.args.shares.now.row in
    let b = c.args.shares.now.pivot in
    let q = number c.args.row.now k in
    let m = number c.args.pivot.now k in
    let short = c.requires.short.each k in
    let new = to_z w64 (of_z w64 (to_z w64 (of_z w64 (to_z w64 (of_z w64 (number row k)) *ℤ to_z w64 (of_z w64 a))) +ℤ to_z w64 (of_z w64 (to_z w64 (of_z w64 b) *ℤ to_z w64 (of_z w64 m))))) in
    let is : to_z w64 (of_z w64 (to_z w64 (of_z w64 (to_z w64 (of_z w64 (number row k)) *ℤ to_z w64 (of_z w64 a))) +ℤ to_z w64 (of_z w64 (to_z w64 (of_z w64 b) *ℤ to_z w64 (of_z w64 m))))) ≡ q *ℤ a +ℤ b *ℤ m =
    ap (λ z. to_z w64 (of_z w64 (to_z w64 (of_z w64 (to_z w64 (of_z w64 z) *ℤ to_z w64 (of_z w64 a))) +ℤ to_z w64 (of_z w64 (to_z w64 (of_z w64 b) *ℤ to_z w64 (of_z w64 m)))))) (c.loop-k.invariant.3 k (omega arith))
    ∙ ap (λ z. to_z w64 (of_z w64 z)) (sum_word a q b m short c.requires.first (c.requires.row.each k) c.requires.second (c.requires.pivot.each k))
    ∙ word64 (q *ℤ a +ℤ b *ℤ m) (sum_small a q b m short) in (
      length-set row k new ∙ c.loop-k.invariant.0,
      set_next row k new (λ j z. z ≡ number c.args.row.now j *ℤ a +ℤ b *ℤ number c.args.pivot.now j) (omega arith) is c.loop-k.invariant.1,
      set_next row k new (λ j z. unsigned_abs z < 2 ^ 63) (omega arith) (subst (λ z. unsigned_abs z < 2 ^ 63) (sym is) (sum_small a q b m short)) c.loop-k.invariant.2,
      set_rest row k new (λ j z. z ≡ number c.args.row.now j) c.loop-k.invariant.3,
    )
