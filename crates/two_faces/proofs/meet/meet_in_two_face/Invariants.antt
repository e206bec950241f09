use Rattle.std.proofs.Common.{take}
use Rattle.std.specs.Prelude.{All}
use Rattle.two_faces.specs.Meets.{IsFirst}
use Rattle.two_faces.proofs.meet.meet_in_two_face.Given as goal

abbrev pub invariant-loop-a : goal.invariant-loop-a
invariant-loop-a l = All (λ x. ¬ (IsFirst l.m l.n l.vertices x)) (take l.a-index l.vertices)
