use Rattle.std.proofs.Common.{subst, sym}
use Rattle.ntfe_nums.specs.Vectors.{Vector}
use Rattle.fine_triples.specs.Meetings.{IsInside}
use Rattle.fine_triples.proofs.InsideLemmas.{inside_none}
use Rattle.fine_triples.proofs.segments.is_inside.Goals as goal

pub returns-then-is_same_place-clause-when_false :
    goal.returns-then-is_same_place-clause-when_false
returns-then-is_same_place-clause-when_false c t h =
    let a = c.args.a.now in
    let x = c.args.x.now in
    let P : Vector → Type 0 = λ z. IsInside a z x in
    inside_none a x (subst P (sym (c.is_same_place.ensures.when_true c.if-is_same_place.true)) h)
