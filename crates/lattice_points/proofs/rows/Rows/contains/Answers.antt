use Rattle.std.proofs.Common.{List, ℤ, subst, sym, w64, to_z, of_z, to_z-of_z}
use Rattle.lattice_points.specs.Boxes.{IsInSome}
use Rattle.lattice_points.specs.declared.bounds.Extent.{Extent}
use Rattle.lattice_points.proofs.RowLemmas.{none_more, none_all}
use Rattle.lattice_points.proofs.rows.Rows.contains.Goals as goal

pub loop-extent-preserved : goal.loop-extent-preserved
loop-extent-preserved c =
    none_more (to_z w64 (of_z w64 c.args.x2)) c.as_slice-extent-items.result.now c.loop-extent.extent-index _ c.loop-extent-test.true (c.contains.ensures c.if-contains.false) c.loop-extent.invariant

pub returns : goal.returns
returns c = λ e a.
    let es = c.as_slice-extent-items.result.now in
    let P : List Extent × ℤ → Type 0 = λ u. IsInSome u.0 u.1 in
    none_all (to_z w64 (of_z w64 c.args.x2)) es c.loop-extent.extent-index c.loop-extent-test.false c.loop-extent.invariant
    (subst P (λ i. (sym c.as_slice-extent-items.ensures.value i, sym (to_z-of_z c.ranges.x2) i)) a)
