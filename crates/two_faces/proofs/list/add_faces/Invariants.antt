use Rattle.std.proofs.Common.{◌≡◌, ◌+◌, ◌≤◌}
use Rattle.two_faces.specs.Added.{AddsFaces}
use Rattle.two_faces.proofs.list.add_faces.Given as goal

abbrev pub invariant-loop-j : goal.invariant-loop-j
invariant-loop-j l = AddsFaces l.pair l.points (λ f g. (f ≡ l.i + 1) × (g ≤ l.j)) l.initial.list.items l.list.items
