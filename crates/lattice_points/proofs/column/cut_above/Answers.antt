use Rattle.std.proofs.Common.{◌≤◌, ◌^◌, ◌∙◌, sym, subst, arith, ℤ, pos, negsuc, ◌+ℤ◌, ◌-ℤ◌, ◌*ℤ◌, ◌≤ℤ◌, unsigned_abs, w64, to_z, of_z}
use Rattle.std.specs.Prelude.{◌<ℤ◌, ◌↔◌}
use Rattle.std.proofs.lemmas.Int.{ints}
use Rattle.lattice_points.specs.declared.bounds.Extent.{Extent}
use Rattle.lattice_points.specs.Boxes.{IsWithin}
use Rattle.lattice_points.proofs.CutLemmas.{divides, short_back, next_fits, opposite_is, quotient_from, quotient_short, product_fits, reach_fits, reach_low, reach_high, none_from, all_up_to, cut_high}
use Rattle.lattice_points.proofs.column.cut_above.Goals as goal

wide : (z : ℤ) → unsigned_abs z ≤ 2 ^ 21 → unsigned_abs z ≤ 2 ^ 33
wide z h = omega arith

longer : (z : ℤ) → unsigned_abs z ≤ 2 ^ 33 → unsigned_abs z ≤ 2 ^ 34
longer z h = omega arith

turned : (s : ℤ) → s <ℤ pos 0 → pos 0 <ℤ (pos 0 -ℤ s)
turned s h = omega (arith, ints)

pub returns-then-level-slope-ltminus1-clause-value : goal.returns-then-level-slope-ltminus1-clause-value
returns-then-level-slope-ltminus1-clause-value c = λ x.
    let a = c.args in
    let t = reach_low a.level a.slope a.left.low c.requires.level.0 c.requires.slope.0 c.requires.left.0 c.if-level-slope-ltminus1.true in (
      λ w. absurd (let l = w.low in let h = w.high in omega (arith, ints)),
      λ (w, v). absurd (none_from a.slope a.level a.left.low c.requires.falling t x w.low v),
    )

pub overflow_mul-slope-2 : goal.overflow_mul-slope-2
overflow_mul-slope-2 c = product_fits c.args.level c.args.slope c.args.left.high c.requires.level.0 c.requires.slope.0 c.requires.left.1.0

pub overflow_add-level-2 : goal.overflow_add-level-2
overflow_add-level-2 c = reach_fits c.args.level c.args.slope c.args.left.high c.requires.level.0 c.requires.slope.0 c.requires.left.1.0

pub overflow_add-level-then-level-slope-ltminus1-2 : goal.overflow_add-level-then-level-slope-ltminus1-2
overflow_add-level-then-level-slope-ltminus1-2 c = next_fits c.args.level c.requires.level.0

pub div_euclid-high-requires-clause-nonzero : goal.div_euclid-high-requires-clause-nonzero
div_euclid-high-requires-clause-nonzero c =
    divides _ (pos 0 -ℤ c.args.slope) (opposite_is c.args.slope (wide c.args.slope c.requires.slope.0)) (turned c.args.slope c.requires.falling)

pub returns-then-level-slope-ltminus1-2-clause-value : goal.returns-then-level-slope-ltminus1-2-clause-value
returns-then-level-slope-ltminus1-2-clause-value c = λ x.
    let a = c.args in
    let s = a.slope in
    let q = c.div_euclid-high.result in
    let e = quotient_from q a.level (to_z w64 (of_z w64 (pos 0 -ℤ to_z w64 (of_z w64 s)))) (pos 0 -ℤ s) c.requires.level.0 (opposite_is s (wide s c.requires.slope.0)) c.div_euclid-high.ensures in
    let t = reach_low a.level s a.left.high c.requires.level.0 c.requires.slope.0 c.requires.left.1.0 c.if-level-slope-ltminus1-2.true in
    let low = short_back a.left.low (longer a.left.low c.requires.left.0) in
    let high = short_back q (longer q (quotient_short q a.level (pos 0 -ℤ s) (turned s c.requires.falling) c.requires.level.0 e)) ∙ e in
    let P : Extent → Type 0 = λ w. IsWithin w x ↔ (IsWithin a.left x × (negsuc 0 ≤ℤ (a.level +ℤ s *ℤ x))) in
    subst P (sym (λ i. record { low = low i; high = high i })) (cut_high s a.level a.left.low a.left.high c.requires.falling t x)

pub returns-then-level-slope-ltminus1-2-clause-size : goal.returns-then-level-slope-ltminus1-2-clause-size
returns-then-level-slope-ltminus1-2-clause-size c =
    let a = c.args in
    let s = a.slope in
    let q = c.div_euclid-high.result in
    let e = quotient_from q a.level (to_z w64 (of_z w64 (pos 0 -ℤ to_z w64 (of_z w64 s)))) (pos 0 -ℤ s) c.requires.level.0 (opposite_is s (wide s c.requires.slope.0)) c.div_euclid-high.ensures in
    let k = quotient_short q a.level (pos 0 -ℤ s) (turned s c.requires.falling) c.requires.level.0 e in
    let P : ℤ → Type 0 = λ y. unsigned_abs y ≤ 2 ^ 33 in
    (subst P (sym (short_back a.left.low (longer a.left.low c.requires.left.0))) c.requires.left.0, (subst P (sym (short_back q (longer q k))) k, tt))

pub returns-clause-value : goal.returns-clause-value
returns-clause-value c = λ x.
    let a = c.args in
    let t = reach_high a.level a.slope a.left.high c.requires.level.0 c.requires.slope.0 c.requires.left.1.0 c.if-level-slope-ltminus1-2.false in
    (λ w. (w, all_up_to a.slope a.level a.left.high c.requires.falling t x w.high), λ (w, v). w)
