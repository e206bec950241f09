use Rattle.std.proofs.Common.{◌≤◌, ◌^◌, ◌∙◌, ap, sym, subst, arith, ℤ, pos, negsuc, ◌+ℤ◌, ◌-ℤ◌, ◌*ℤ◌, ◌≤ℤ◌, unsigned_abs, w64, to_z, of_z, to_z-of_z}
use Rattle.std.specs.Prelude.{◌↔◌}
use Rattle.std.proofs.lemmas.Int.{ints}
use Rattle.lattice_points.specs.declared.bounds.Extent.{Extent}
use Rattle.lattice_points.specs.Boxes.{IsWithin}
use Rattle.lattice_points.proofs.CutLemmas.{rising_from_test, flat_from_test, divides, short_back, next_fits, opposite_is, opposite_fits, quotient_from, quotient_short, product_fits, reach_fits, reach_low, reach_high, none_up_to, all_from, flat, cut_low}
use Rattle.lattice_points.proofs.column.cut_below.Goals as goal
use Rattle.lattice_points.proofs.column.cut_below.Goals.{else-slope-gt0-via-then-slope-gt0+else-level-slope-ltminus1-2, else-slope-gt0-via-else-slope-gt0}

pub returns-then-level-slope-ltminus1-clause-value : goal.returns-then-level-slope-ltminus1-clause-value
returns-then-level-slope-ltminus1-clause-value c = λ x.
    let a = c.args in
    let t = reach_low a.level a.slope a.left.high c.requires.level.0 c.requires.slope.0 c.requires.left.1.0 c.if-level-slope-ltminus1.true in (
      λ w. absurd (let l = w.low in let h = w.high in omega (arith, ints)),
      λ (w, v). absurd (none_up_to a.slope a.level a.left.high c.requires.rising t x w.high v),
    )

pub overflow_mul-slope-then-slope-gt0 : goal.overflow_mul-slope-then-slope-gt0
overflow_mul-slope-then-slope-gt0 c = product_fits c.args.level c.args.slope c.args.left.low c.requires.level.0 c.requires.slope.0 c.requires.left.0

pub overflow_add-level-then-slope-gt0 : goal.overflow_add-level-then-slope-gt0
overflow_add-level-then-slope-gt0 c = reach_fits c.args.level c.args.slope c.args.left.low c.requires.level.0 c.requires.slope.0 c.requires.left.0

pub overflow_add-level-then-level-slope-ltminus1-2 : goal.overflow_add-level-then-level-slope-ltminus1-2
overflow_add-level-then-level-slope-ltminus1-2 c = next_fits c.args.level c.requires.level.0

pub div_euclid-low-requires-clause-nonzero : goal.div_euclid-low-requires-clause-nonzero
div_euclid-low-requires-clause-nonzero c = divides _ c.args.slope (to_z-of_z c.ranges.slope) (rising_from_test c.args.slope c.ranges.slope c.if-slope-gt0.true)

pub overflow_sub-low : goal.overflow_sub-low
overflow_sub-low c =
    let s = c.args.slope in
    let e = quotient_from c.div_euclid-low.result c.args.level (to_z w64 (of_z w64 s)) s c.requires.level.0 (to_z-of_z c.ranges.slope) c.div_euclid-low.ensures in
    opposite_fits c.div_euclid-low.result (quotient_short c.div_euclid-low.result c.args.level s (rising_from_test s c.ranges.slope c.if-slope-gt0.true) c.requires.level.0 e)

pub returns-then-level-slope-ltminus1-2-clause-value : goal.returns-then-level-slope-ltminus1-2-clause-value
returns-then-level-slope-ltminus1-2-clause-value c = λ x.
    let a = c.args in
    let s = a.slope in
    let q = c.div_euclid-low.result in
    let p = rising_from_test s c.ranges.slope c.if-slope-gt0.true in
    let e = quotient_from q a.level (to_z w64 (of_z w64 s)) s c.requires.level.0 (to_z-of_z c.ranges.slope) c.div_euclid-low.ensures in
    let t = reach_low a.level s a.left.low c.requires.level.0 c.requires.slope.0 c.requires.left.0 c.if-level-slope-ltminus1-2.true in
    let low = opposite_is q (quotient_short q a.level s p c.requires.level.0 e) ∙ ap (λ y. pos 0 -ℤ y) e in
    let high = short_back a.left.high (let h = c.requires.left.1.0 in let k : unsigned_abs a.left.high ≤ 2 ^ 34 = omega arith in k) in
    let P : Extent → Type 0 = λ w. IsWithin w x ↔ (IsWithin a.left x × (negsuc 0 ≤ℤ (a.level +ℤ s *ℤ x))) in
    subst P (sym (λ i. record { low = low i; high = high i })) (cut_low s a.level a.left.low a.left.high p t x)

pub returns-then-level-slope-ltminus1-2-clause-size : goal.returns-then-level-slope-ltminus1-2-clause-size
returns-then-level-slope-ltminus1-2-clause-size c =
    let a = c.args in
    let s = a.slope in
    let q = c.div_euclid-low.result in
    let p = rising_from_test s c.ranges.slope c.if-slope-gt0.true in
    let e = quotient_from q a.level (to_z w64 (of_z w64 s)) s c.requires.level.0 (to_z-of_z c.ranges.slope) c.div_euclid-low.ensures in
    let k = quotient_short q a.level s p c.requires.level.0 e in
    let low = opposite_is q k in
    let P : ℤ → Type 0 = λ y. unsigned_abs y ≤ 2 ^ 33 in (
      subst P (sym low) (let r : unsigned_abs (pos 0 -ℤ q) ≤ 2 ^ 33 = omega (arith, ints) in r),
      (subst P (sym (short_back a.left.high (let h = c.requires.left.1.0 in let k : unsigned_abs a.left.high ≤ 2 ^ 34 = omega arith in k))) c.requires.left.1.0, tt),
    )

pub returns-clause-value : goal.returns-clause-value
returns-clause-value c = λ x.
    let a = c.args in
    let t = reach_high a.level a.slope a.left.high c.requires.level.0 c.requires.slope.0 c.requires.left.1.0 c.if-level-slope-ltminus1.false in (
      λ w. (
        w,
        elim c.else-slope-gt0.branch [
          | else-slope-gt0-via-then-slope-gt0+else-level-slope-ltminus1-2 b ↦
              all_from a.slope a.level a.left.low c.requires.rising (reach_high a.level a.slope a.left.low c.requires.level.0 c.requires.slope.0 c.requires.left.0 b.if-level-slope-ltminus1-2.false) x w.low
          | else-slope-gt0-via-else-slope-gt0 b ↦
              flat a.slope a.level a.left.high c.requires.rising (flat_from_test a.slope c.ranges.slope b.if-slope-gt0.false) t x
        ],
      ),
      λ (w, v). w,
    )
