use Rattle.std.proofs.Common.{◌≡◌, sym, ◌∙◌, subst, arith}
use Rattle.std.proofs.lemmas.List.{take_all}
use Rattle.strict_solver.specs.Rows.{AreNarrow}
use Rattle.strict_solver.proofs.Rows.{narrow_all}
use Rattle.strict_solver.proofs.row.store.Goals as goal

pub returns : goal.returns
returns c =
    let same : c.loop-k.row ≡ c.args.numbers.now =
    sym (take_all c.loop-k.k c.loop-k.row (omega arith)) ∙ c.loop-k.invariant.0 ∙ take_all c.loop-k.k c.args.numbers.now (omega arith) in
    (same, subst (λ row. AreNarrow c.args.width row) (sym same) (narrow_all c.args.width c.args.numbers.now c.loop-k.k (omega arith) c.loop-k.invariant.1))
