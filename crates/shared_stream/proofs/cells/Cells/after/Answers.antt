use Rattle.std.proofs.Common.{◌≡◌, ◌+◌, ◌∙◌, ap, refl, sym, arith, ℕ, true, false}
use Rattle.shared_stream.specs.Segments.{HasSegment}
use Rattle.shared_stream.proofs.HandLemmas.{is_last, is_not_last}
use Rattle.shared_stream.proofs.cells.Cells.after.Goals as goal

pub returns-then-ended : goal.returns-then-ended
returns-then-ended c = (
  is_last c.args.self.now c.args.previous.now c.number-number.result c.ended.result c.requires.patch c.number-number.ensures.segment c.number-number.ensures.value c.if-ended.true c.ended.ensures.next,
  omega (arith, c.number-number.ensures.value),
)

pub returns-then-is_of : goal.returns-then-is_of
returns-then-is_of c =
    let n : HasSegment c.args.self.now (c.args.previous.now.number + 1) = is_not_last c.args.self.now c.args.previous.now c.ended.result c.requires.patch c.if-ended.false c.ended.ensures.next in
    let same = c.if-is_of.ensures.0 refl in
    ((same.0 ∙ ap (λ (k : ℕ). k + 1) c.number-number.ensures.value, same.1 ∙ c.chart.ensures), n)

pub returns : goal.returns
returns c =
    let n : HasSegment c.args.self.now (c.args.previous.now.number + 1) = is_not_last c.args.self.now c.args.previous.now c.ended.result c.requires.patch c.if-ended.false c.ended.ensures.next in
    let made = c.in_ok-after.ensures in (
      (made.0, made.1 ∙ c.requires.patch),
      n,
      λ i. (let f : false ≡ true = c.if-is_of.ensures.1 (i.0 ∙ ap (λ (k : ℕ). k + 1) (sym c.number-number.ensures.value), i.1 ∙ sym c.chart.ensures) in absurd cc),
    )
