use Rattle.std.proofs.Common.{◌≤◌}
use Rattle.std.specs.Prelude.{⊤}
use Rattle.star_builder.proofs.FirstMembers.{HasNone}
use Rattle.star_builder.proofs.first_member.first_member.Given as goal

abbrev pub invariant-loop-place : goal.invariant-loop-place
invariant-loop-place l = HasNone l.search l.facet (λ i j k m. ⊤ × (i ≤ l.place))
