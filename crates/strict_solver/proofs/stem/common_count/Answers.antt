use Rattle.std.proofs.Common.{◌++◌, ◌∷◌, [], ◌∙◌, sym, arith}
use Rattle.strict_solver.proofs.Extending.{no_fold, take_more}
use Rattle.strict_solver.proofs.stem.common_count.Goals as goal

pub loop-count-preserved : goal.loop-count-preserved
loop-count-preserved c =
    let i = c.loop-count.invariant in
    let k = c.loop-count.count in
    let a = take_more c.args.left.now k no_fold (omega arith) in
    let b = take_more c.args.right.now k no_fold (omega arith) in
    (omega arith, omega arith, a ∙ (λ t. i.2 t ++ c.if-is_same.ensures t ∷ []) ∙ sym b)
