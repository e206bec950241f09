use Rattle.std.proofs.Common.{◌∙◌, ap, arith}
use Rattle.strict_solver.specs.Stems.{StemValue}
use Rattle.strict_solver.proofs.Stems.{view_known, known_now, heights_answer}
use Rattle.strict_solver.proofs.stem.Stem.write_heights.Goals as goal

pub returns-clause-heights : goal.returns-clause-heights
returns-clause-heights c = λ fs e.
    let b = c.self.inside.basis in
    let items = c.self.inside.folds.items in
    let columns = ap (λ (v : StemValue). v.columns) c.self.view_is in
    let f = ap (λ (v : StemValue). v.folds) c.self.view_is ∙ e in
    let v = view_known c.self.inside.known items fs f in
    let k = known_now c.self.inside.known b items fs c.self.invariant.1 f in
    let i = c.loop-k.invariant in
    heights_answer b c.args.self.now.columns items fs c.write_heights.new.self.line.items c.loop-k.heights columns v.1 k.stands c.write_heights.ensures.heights (i.0 ∙ c.requires.count) (λ j l. i.1 j (let a = i.0 in let n = c.requires.count in omega arith))
