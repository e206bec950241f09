use Rattle.std.proofs.Common.{ℤ, ◌≡◌, ◌≤◌, sym, subst, ◌∙◌, unsigned_abs, w64, to_z, of_z}
use Rattle.ntfe_model.proofs.FlatLemmas.{word_back}
use Rattle.face_chart.proofs.UnitLemmas.{unit_area_found, unit_area_none}
use Rattle.face_chart.proofs.units.unit_area.Goals as goal

pub returns-in-Some : goal.returns-in-Some
returns-in-Some c =
    let z = c.area.result in
    let b : to_z w64 (of_z w64 z) ≡ z = word_back z c.area.ensures.size in
    let P : ℤ → Type 0 = λ y. unsigned_abs y ≤ 16777216 in
    unit_area_found c.args.table.now c.in-Some.a c.in-Some.b c.in-Some.c (to_z w64 (of_z w64 z)) (subst P (sym b) c.area.ensures.size) c.in-Some.ensures (b ∙ c.area.ensures.value)

pub returns-in-None : goal.returns-in-None
returns-in-None c = unit_area_none c.args.table.now c.in-None.ensures
