use Rattle.std.proofs.Common.{◌≡◌, ◌+◌, ◌∙◌, ◌++◌, ℤ, List, ap, length, take, drop}
use Rattle.strict_solver.specs.Rows.{number, IsLowered}
use Rattle.strict_solver.specs.Grids.{row_at}
use Rattle.strict_solver.proofs.Parts.{lent_back}
use Rattle.strict_solver.proofs.Words.{word30}
use Rattle.strict_solver.proofs.HeightsLine.{heights_line}
use Rattle.std.proofs.Common.{subst}
use Rattle.strict_solver.proofs.basis.Basis.write_heights.Goals as goal

pub returns-clause-heights : goal.returns-clause-heights
returns-clause-heights c =
    let b = c.args.self.now in
    let out = c.gather.new.out in
    let kept = take b.line.len (c.gather.new.out ++ drop (length c.gather.new.out) b.line.items) in
    let low = c.lower.new.row in
    let stride : length c.gather.new.out ≡ length b.line.items = c.gather.ensures.count ∙ ap (λ (xs : List ℤ). length xs) c.deref_mut.ensures.value in
    let back : take b.line.len (c.gather.new.out ++ drop (length c.gather.new.out) b.line.items) ≡ c.gather.new.out = lent_back b.line.len out b.line.items (c.gather.ensures.count ∙ c.deref_mut.ensures.len) in
    let P : List ℤ → Type 0 = λ xs. IsLowered xs low in
    let lowered = subst P (c.deref_mut-2.ensures.value ∙ back) c.lower.ensures in
    heights_line b out low _ (stride ∙ c.requires.line) (c.gather.ensures.first ∙ word30 b.denominator c.requires.small)
    (λ k l. c.gather.ensures.each k l ∙ ap (λ xs. number (row_at (b.columns + 2) xs k) 1) c.deref.ensures.value) c.gather.ensures.last lowered
    (lent_back b.line.len low kept (c.lower.auto.row ∙ c.deref_mut-2.ensures.len))
