use Rattle.std.proofs.Common.{◌≤◌, []}
use Rattle.two_faces.specs.Added.{AddsFaces}
use Rattle.two_faces.proofs.list.faces.Given as goal

abbrev pub invariant-loop-i : goal.invariant-loop-i
invariant-loop-i l = AddsFaces l.pair l.points (λ f g. f ≤ l.i) [] l.list.items
