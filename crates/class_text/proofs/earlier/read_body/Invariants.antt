use Rattle.std.proofs.Common.{length}
use Rattle.class_text.specs.Forms.{layout_of}
use Rattle.class_text.proofs.ReadLines.{ReadSoFar}
use Rattle.class_text.proofs.earlier.read_body.Given as goal

abbrev pub invariant-loop-line : goal.invariant-loop-line
invariant-loop-line l = ReadSoFar (layout_of l.form) l.head l.before l.bytes l.rest l.lines l.reader

abbrev pub decreases-loop-line : goal.decreases-loop-line
decreases-loop-line l = length l.rest
