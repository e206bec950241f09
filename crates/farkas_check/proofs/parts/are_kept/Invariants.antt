use Rattle.std.proofs.Common.{take}
use Rattle.std.specs.Prelude.{All}
use Rattle.farkas_check.specs.Parts.{KeepsPart, HasItemOf}
use Rattle.farkas_check.proofs.parts.are_kept.Given as goal

abbrev pub invariant-loop-part : goal.invariant-loop-part
invariant-loop-part g l = record {
  kept : All (KeepsPart (g.B.Book.keeps l.book) l.geometry) (take l.part-index l.parts);
  exist : All (HasItemOf l.geometry) (take l.part-index l.parts);
}
