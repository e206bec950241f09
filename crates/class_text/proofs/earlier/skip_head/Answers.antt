use Rattle.std.proofs.Common.{◌≡◌, ◌∷◌, List, ℕ, sym, ◌∙◌, ap, rules}
use Rattle.ntfe_model.specs.Earlier.{whole_lines}
use Rattle.class_text.proofs.ReadLines.{same_more, same_differs}
use Rattle.class_text.proofs.earlier.skip_head.Goals as goal

pub returns-then-ne-clause-fault : goal.returns-then-ne-clause-fault
returns-then-ne-clause-fault c =
    let differs : ¬ (c.in-Some-cut_line.line.now ≡ c.in-Some.expected.now) = search rules in
    same_differs c.args.head.now c.args.bytes.now c.loop-expected.due.now c.loop-expected.behind.rest.now c.loop-expected.behind.lines c.loop-expected.invariant
    c.in-Some.expected.now c.in-Some-cut_line.line.now _ _ c.in-Some.ensures.lines c.in-Some-cut_line.ensures.lines differs

pub loop-expected-preserved : goal.loop-expected-preserved
loop-expected-preserved c =
    let same : c.in-Some-cut_line.line.now ≡ c.in-Some.expected.now = search rules in
    same_more c.args.head.now c.args.bytes.now c.loop-expected.due.now c.loop-expected.behind.rest.now c.loop-expected.behind.lines c.loop-expected.invariant
    c.in-Some-cut_line.line.now c.in-Some.more.now c.in-Some-cut_line.rest.now (c.in-Some.ensures.lines ∙ ap (λ (x : List ℕ). x ∷ whole_lines c.in-Some.more.now) (sym same))
    c.in-Some-cut_line.ensures.lines c.in-Some-cut_line.ensures.length
