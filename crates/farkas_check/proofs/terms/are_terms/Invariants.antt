use Rattle.std.proofs.Common.{take}
use Rattle.std.specs.Prelude.{All}
use Rattle.ntfe_model.specs.Certificates.{IsTermOf}
use Rattle.farkas_check.proofs.terms.are_terms.Given as goal

abbrev pub invariant-loop-term : goal.invariant-loop-term
invariant-loop-term g l = All (IsTermOf l.geometry l.nogood) (take l.term-index l.nogood.terms)
