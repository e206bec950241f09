use Rattle.std.proofs.Common.{◌≡◌, ◌-◌, arith, refl, true, false}
use Rattle.std.proofs.lemmas.List.Elements.{All-contains, Contains-get_or}
use Rattle.ntfe_model.specs.declared.triangle.Triangle.{Triangle}
use Rattle.fine_stream.specs.Paths.{AreCompatible}
use Rattle.fine_stream.proofs.TableLemmas.{places_count, places_get}
use Rattle.fine_stream.proofs.Parts.{part_more, part_next, from_before, from_all}
use Rattle.fine_stream.proofs.sides.fits.Goals as goal

pub returns-then-not-unit-clause-when_false : goal.returns-then-not-unit-clause-when_false
returns-then-not-unit-clause-when_false c =
    λ e p. absurd (let k : false ≡ true = c.if-not-unit.ensures.1 (part_next c.args.chart.now c.args.triangles.now c.args.t.now p).0 in cc)

pub returns-then-not-stands_with-clause-when_false : goal.returns-then-not-stands_with-clause-when_false
returns-then-not-stands_with-clause-when_false c =
    λ e p. let w = c.loop-left.invariant.within in let l = c.loop-left-test.true in
    c.stands_with.ensures.when_false c.if-not-stands_with.true
    (All-contains (λ (v : Triangle). AreCompatible c.args.chart.now v c.args.t.now) c.args.triangles.now _ (part_next c.args.chart.now c.args.triangles.now c.args.t.now p).1
    (Contains-get_or c.args.triangles.now (c.loop-left.left - 1) _ (omega arith)))

pub loop-left-preserved : goal.loop-left-preserved
loop-left-preserved c =
    let l = c.loop-left-test.true in
    from_before c.args.chart.now c.loop-left.left (c.loop-left.left - 1) c.args.triangles.now c.args.t.now _ (omega arith) (c.stands_with.ensures.when_true c.if-not-stands_with.false) c.loop-left.invariant

pub returns-clause-when_true : goal.returns-clause-when_true
returns-clause-when_true c =
    λ e. part_more c.args.chart.now c.args.triangles.now c.args.t.now c.requires.part (c.if-not-unit.ensures.0 refl)
    (from_all c.args.chart.now c.loop-left.left c.args.triangles.now c.args.t.now c.loop-left-test.false c.loop-left.invariant)

pub bounds-places-left : goal.bounds-places-left
bounds-places-left c =
    let n = places_count c.requires.row.0 c.args.places.now c.args.triangles.now c.requires.row.2 in let w = c.loop-left.invariant.within in let l = c.loop-left-test.true in omega arith

pub stands_with-requires-clause-row : goal.stands_with-requires-clause-row
stands_with-requires-clause-row c =
    let w = c.loop-left.invariant.within in let l = c.loop-left-test.true in
    (c.requires.row.0, c.requires.row.1, places_get c.requires.row.0 c.args.places.now c.args.triangles.now (c.loop-left.left - 1) 0 _ c.requires.row.2 (omega arith))
