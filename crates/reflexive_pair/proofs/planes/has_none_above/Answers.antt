use Rattle.std.proofs.Common.{sym, subst, arith, take, ◌≤ℤ◌}
use Rattle.std.proofs.lemmas.List.{take_all}
use Rattle.std.proofs.lemmas.List.Elements.{All-same, All-more}
use Rattle.ntfe_nums.specs.Vectors.{Vector, vector, dot}
use Rattle.reflexive_pair.proofs.planes.has_none_above.Goals as goal

pub returns-clause-when_true : goal.returns-clause-when_true
returns-clause-when_true c =
    let n = vector c.args.n.now in
    let a = c.args.a.now in
    let xs = c.args.list.now in
    let i = c.loop-x.x-index in
    λ e. All-same (λ x. dot n x ≤ℤ dot n a) xs (take i xs) (sym (take_all i xs (omega arith))) c.loop-x.invariant

pub loop-x-preserved : goal.loop-x-preserved
loop-x-preserved c =
    let n = vector c.args.n.now in
    let a = c.args.a.now in
    let P : Vector → Type 0 = λ x. dot n x ≤ℤ dot n a in
    All-more P c.args.list.now c.loop-x.x-index c.x-item.result (omega arith) c.loop-x.invariant
    (subst P c.x-item.is (c.is_above.ensures.when_false c.if-is_above.false))
