use Rattle.std.proofs.Common.{sym, subst, arith, take}
use Rattle.std.proofs.lemmas.List.{take_all}
use Rattle.std.proofs.lemmas.List.Elements.{All-same, All-more}
use Rattle.ntfe_nums.specs.Vectors.{Vector}
use Rattle.two_faces.specs.Meets.{IsThird}
use Rattle.two_faces.proofs.meet.has_third.Goals as goal

pub returns-clause-when_false : goal.returns-clause-when_false
returns-clause-when_false c =
    let vs = c.args.vertices.now in
    let i = c.loop-c.c-index in
    λ e. All-same (λ x. ¬ (IsThird c.args.m.now c.args.n.now c.args.a.now c.args.b.now x)) vs (take i vs) (sym (take_all i vs (omega arith))) c.loop-c.invariant

pub loop-c-preserved : goal.loop-c-preserved
loop-c-preserved c =
    let P : Vector → Type 0 = λ x. ¬ (IsThird c.args.m.now c.args.n.now c.args.a.now c.args.b.now x) in
    All-more P c.args.vertices.now c.loop-c.c-index c.c-item.result c.loop-c-test.true c.loop-c.invariant (subst P c.c-item.is (c.is_third.ensures.when_false c.if-is_third.false))
