use Rattle.std.proofs.Common.{sym, ◌∙◌}
use Rattle.std.specs.Cmp.Rules.{signed_items}
use Rattle.ntfe_nums.proofs.VectorLemmas.{same_vectors, same_numbers}
use Rattle.ntfe_model.proofs.sames.Vec4Same.is_same.Goals as goal

pub returns : goal.returns
returns c =
    let xs = c.coordinates.result.now in
    let ys = c.coordinates-2.result.now in
    let d = signed_items xs ys in (
      λ t. same_vectors xs ys c.args.self.now c.args.other.now c.coordinates.ensures.value c.coordinates-2.ensures.value (d.0 (sym c.eq.ensures ∙ t)),
      λ e. c.eq.ensures ∙ d.1 (same_numbers xs ys c.args.self.now c.args.other.now c.coordinates.ensures.list c.coordinates-2.ensures.list e),
    )
