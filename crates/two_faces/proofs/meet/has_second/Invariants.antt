use Rattle.std.proofs.Common.{take}
use Rattle.std.specs.Prelude.{All}
use Rattle.two_faces.specs.Meets.{IsSecond}
use Rattle.two_faces.proofs.meet.has_second.Given as goal

abbrev pub invariant-loop-b : goal.invariant-loop-b
invariant-loop-b l = All (λ x. ¬ (IsSecond l.m l.n l.vertices l.a x)) (take l.b-index l.vertices)
