use Rattle.std.proofs.Common.{◌≤◌, ◌∙◌, ap, arith, length}
use Rattle.std.proofs.Math.Facts.{Fits-below}
use Rattle.ntfe_model.proofs.Counts.{faces_few}
use Rattle.node_probe.proofs.FoldCacheLemmas.{patches_more}
use Rattle.node_probe.proofs.fold_cache.FoldCache.new.Goals as goal

pub overflow_cast-face : goal.overflow_cast-face
overflow_cast-face c =
    let few = faces_few c.args.geometry.now c.faces-count.ensures.shape in
    let e = ap length c.faces-count.ensures.value in
    let l = c.loop-face-test.true in
    Fits-below tt (let r : c.loop-face.face ≤ 4294967295 = omega (arith, few, e, l) in r)

pub loop-face-preserved : goal.loop-face-preserved
loop-face-preserved c =
    let e = ap length c.faces-count.ensures.value in
    let l = c.loop-face-test.true in
    patches_more c.args.geometry.now c.loop-face.face c.loop-face.faces.items c.push.new.self.items c.new.result (omega (arith, e, l)) c.loop-face.invariant (c.new.ensures ∙ c.in_ok-chart.ensures) c.in_ok-push.ensures.items
