use Rattle.std.proofs.Common.{take}
use Rattle.std.specs.Prelude.{All}
use Rattle.two_faces.specs.Meets.{IsThird}
use Rattle.two_faces.proofs.meet.has_third.Given as goal

abbrev pub invariant-loop-c : goal.invariant-loop-c
invariant-loop-c l = All (λ x. ¬ (IsThird l.m l.n l.a l.b x)) (take l.c-index l.vertices)
