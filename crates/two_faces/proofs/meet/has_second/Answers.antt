use Rattle.std.proofs.Common.{sym, subst, arith, take}
use Rattle.std.proofs.lemmas.List.{take_all}
use Rattle.std.proofs.lemmas.List.Elements.{All-same, All-more}
use Rattle.ntfe_nums.specs.Vectors.{Vector}
use Rattle.two_faces.specs.Meets.{IsSecond}
use Rattle.two_faces.proofs.meet.has_second.Goals as goal

pub returns-clause-when_false : goal.returns-clause-when_false
returns-clause-when_false c =
    let vs = c.args.vertices.now in
    let i = c.loop-b.b-index in
    λ e. All-same (λ x. ¬ (IsSecond c.args.m.now c.args.n.now c.args.vertices.now c.args.a.now x)) vs (take i vs) (sym (take_all i vs (omega arith))) c.loop-b.invariant

pub loop-b-preserved : goal.loop-b-preserved
loop-b-preserved c =
    let P : Vector → Type 0 = λ x. ¬ (IsSecond c.args.m.now c.args.n.now c.args.vertices.now c.args.a.now x) in
    All-more P c.args.vertices.now c.loop-b.b-index c.b-item.result c.loop-b-test.true c.loop-b.invariant (subst P c.b-item.is (c.is_second.ensures.when_false c.if-is_second.false))
