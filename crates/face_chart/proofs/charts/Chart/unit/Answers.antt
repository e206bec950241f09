use Rattle.std.proofs.Common.{ℤ, Bool, true, false, ◌≡◌, ◌≤◌, sym, ap, subst, ◌∙◌, arith, unsigned_abs, w64, of_z}
use Rattle.ntfe_nums.proofs.Comparisons.{same_from_test, test_from_same}
use Rattle.ntfe_model.specs.Charts.{Patch}
use Rattle.face_chart.specs.Units.{IsUnitArea}
use Rattle.ntfe_model.proofs.FlatLemmas.{positive_from_test, not_positive_from_test}
use Rattle.ntfe_model.proofs.UnitTriples.{area_of, unit_area}
use Rattle.face_chart.proofs.UnitLemmas.{same_bits}
use Rattle.ntfe_nums.proofs.Signs.{positive_same, not_both_signs}
use Rattle.face_chart.proofs.charts.Chart.unit.Goals as goal

wide : (z : ℤ) → unsigned_abs z ≤ 16777216 → unsigned_abs z ≤ 1099511627776
wide z s = omega (arith, s)

not_true : {X : Type 0} (b : Bool) → b ≡ false → b ≡ true → X
not_true b e f = let g : false ≡ true = sym e ∙ f in cc

pub returns-then-area-gt0 : goal.returns-then-area-gt0
returns-then-area-gt0 c =
    let h = c.args.self.now in
    let z = c.area-area.result in
    let u = c.self.inside.unit_area in
    let P : Patch → Type 0 = λ g. IsUnitArea g u in
    let inv = subst P c.self.view_is c.self.invariant.units in
    let e = c.area-area.ensures.value ∙ (λ i. area_of (c.self.view_is i) c.args.a c.args.b c.args.c) in
    let l = positive_from_test z c.area-area.ensures.size c.if-area-gt0.true in (
      λ t. (let same = same_bits z u (wide z c.area-area.ensures.size) (wide u inv.size) (same_from_test _ _ t) in
          inv.units c.args.a c.args.b c.args.c (c.requires.a, c.requires.b, c.requires.c) (sym e ∙ same) (positive_same z u same l)),
      λ v. test_from_same _ _ (ap (of_z w64) (e ∙ inv.of_units c.args.a c.args.b c.args.c v)),
    )

pub returns-else-area-gt0 : goal.returns-else-area-gt0
returns-else-area-gt0 c =
    let h = c.args.self.now in
    let z = c.area-area.result in
    let e = c.area-area.ensures.value ∙ (λ i. area_of (c.self.view_is i) c.args.a c.args.b c.args.c) in
    let l = not_positive_from_test z c.area-area.ensures.size c.if-area-gt0.false in (
      λ t. not_true _ c.if-area-gt0.false t,
      λ v. absurd (not_both_signs z (area_of h c.args.a c.args.b c.args.c) e l (unit_area h c.args.a c.args.b c.args.c v)),
    )
