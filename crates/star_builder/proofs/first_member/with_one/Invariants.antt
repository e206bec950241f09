use Rattle.std.proofs.Common.{◌≡◌, ◌≤◌}
use Rattle.star_builder.proofs.FirstMembers.{HasNone}
use Rattle.star_builder.proofs.first_member.with_one.Given as goal

abbrev pub invariant-loop-place : goal.invariant-loop-place
invariant-loop-place l = HasNone l.search l.facet (λ i j k m. (i ≡ l.a) × (j ≤ l.place))
