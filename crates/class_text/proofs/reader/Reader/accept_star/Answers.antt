use Rattle.std.proofs.Common.{◌≤◌, [], ◌∷◌, refl, ◌∙◌, arith}
use Rattle.std.specs.Prelude.{codes}
use Rattle.class_text.proofs.UniqueLines.{one_number, only_number}
use Rattle.class_text.proofs.reader.Reader.accept_star.Goals as goal

pub returns-then-not-branch-clause-refused : goal.returns-then-not-branch-clause-refused
returns-then-not-branch-clause-refused c e t a =
    c.in_ok-read_numbers.ensures.refused c.if-not-branch.true (a.0 ∷ []) (one_number (codes "star") c.args.line.now a.0 a.2 a.3)

pub returns-then-left-eq0-clause-refused : goal.returns-then-left-eq0-clause-refused
returns-then-left-eq0-clause-refused c e t a =
    let first = only_number (codes "star") c.args.line.now _ a.0 c.index-left.result.now refl a.2 (c.in_ok-read_numbers.ensures.read c.if-not-branch.false) a.3 in
    let same = c.index-left.ensures ∙ first in
    let some : 1 ≤ a.0 = a.1 in
    omega (arith, same, c.if-left-eq0.true)
