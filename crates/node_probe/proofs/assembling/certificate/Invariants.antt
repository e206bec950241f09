use Rattle.std.proofs.Common.{take}
use Rattle.node_probe.specs.Refutations.{IsAssembled}
use Rattle.node_probe.proofs.assembling.certificate.Given as goal

abbrev pub invariant-loop-entry : goal.invariant-loop-entry
invariant-loop-entry l = IsAssembled l.key l.rows.folds.items l.rows.faces.items (take l.entry-index l.multipliers) l.parts.items l.terms.items
