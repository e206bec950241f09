use Rattle.std.proofs.Common.{ℕ, List, ◌+◌, length, sym, subst}
use Rattle.ntfe_nums.specs.Vectors.{Vector}
use Rattle.ntfe_model.specs.TightBits.{AreTightBits}
use Rattle.star_builder.specs.Facets.{AreMasks}
use Rattle.star_builder.proofs.FacetBits.{masks_more, place_here}
use Rattle.star_builder.proofs.facets.masks_of.Goals as goal

pub loop-point-preserved : goal.loop-point-preserved
loop-point-preserved c =
    let xs = c.args.points.now in
    let ms = c.args.dual.now in
    let i = c.loop-point.point-index in
    let P : List ℕ → Type 0 = AreMasks xs ms (i + 1) in
    let Q : Vector → Type 0 = λ v. AreTightBits v ms (length ms) c.tight_bits.result in
    subst P (sym {A = List ℕ} c.in_ok-push.ensures.items)
    (masks_more xs ms i c.loop-point.masks.items c.tight_bits.result c.loop-point.invariant (subst Q (sym (place_here xs i c.point-item.result c.point-item.is c.loop-point-test.true)) c.tight_bits.ensures))
