use Rattle.std.proofs.Common.{sym, subst, arith, take}
use Rattle.std.proofs.lemmas.List.{take_all}
use Rattle.std.proofs.lemmas.List.Elements.{All-same, All-more}
use Rattle.ntfe_nums.specs.Vectors.{Vector}
use Rattle.two_faces.specs.Meets.{IsFirst}
use Rattle.two_faces.proofs.meet.meet_in_two_face.Goals as goal

pub returns-clause-when_false : goal.returns-clause-when_false
returns-clause-when_false c =
    let vs = c.args.vertices.now in
    let i = c.loop-a.a-index in
    λ e. All-same (λ x. ¬ (IsFirst c.args.m.now c.args.n.now c.args.vertices.now x)) vs (take i vs) (sym (take_all i vs (omega arith))) c.loop-a.invariant

pub loop-a-preserved : goal.loop-a-preserved
loop-a-preserved c =
    let P : Vector → Type 0 = λ x. ¬ (IsFirst c.args.m.now c.args.n.now c.args.vertices.now x) in
    All-more P c.args.vertices.now c.loop-a.a-index c.a-item.result c.loop-a-test.true c.loop-a.invariant (subst P c.a-item.is (c.is_first.ensures.when_false c.if-is_first.false))
