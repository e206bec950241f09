use Rattle.std.proofs.Common.{◌≡◌, Bool, true, false, sym, ◌∙◌}
use Rattle.std.specs.Cmp.Rules.{signed_items}
use Rattle.ntfe_nums.proofs.VectorLemmas.{same_vectors, same_numbers}
use Rattle.face_chart.proofs.table.is_same_place.Goals as goal

both : (b : Bool) → b ≡ true → b ≡ false → ⊥
both b e f = let g : true ≡ false = sym e ∙ f in cc

pub returns : goal.returns
returns c =
    let xs = c.coordinates.result.now in
    let ys = c.coordinates-2.result.now in
    let d = signed_items xs ys in
    record {
      when_true = λ t. same_vectors xs ys c.args.a.now c.args.b.now c.coordinates.ensures.value c.coordinates-2.ensures.value (d.0 (sym c.eq.ensures ∙ t));
      when_false = λ t e.
          both _ (c.eq.ensures ∙ d.1 (same_numbers xs ys c.args.a.now c.args.b.now c.coordinates.ensures.list c.coordinates-2.ensures.list e)) t;
    }
