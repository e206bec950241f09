use Rattle.std.proofs.Common.{◌≡◌, ℕ, sym, ap, ◌∙◌, subst, pos, ◌*ℤ◌, ◌+ℤ◌, List, ℤ, set, length-set}
use Rattle.strict_solver.specs.Rows.{number, IsWideRow, IsCombination}
use Rattle.strict_solver.proofs.ShortRows.{mixed_form, mixed_some}
use Rattle.strict_solver.proofs.row.eliminate_short.Goals as goal
use Rattle.strict_solver.proofs.row.eliminate_short.Goals.{After-mix}

module _ (c : After-mix) where
  mixed : (j : ℕ) → number c.mix.new.row j ≡ number (set c.args.row.now c.args.pivot.now.column (pos 0)) j *ℤ c.args.shares.now.row +ℤ c.args.shares.now.pivot *ℤ number c.args.pivot.now.numbers.items j
  mixed j =
      c.mix.ensures.each j
      ∙ ap (λ (xs : List ℤ). number (set c.args.row.now c.args.pivot.now.column (pos 0)) j *ℤ c.args.shares.now.row +ℤ c.args.shares.now.pivot *ℤ number xs j) c.deref.ensures.value

pub lower-requires-clause-some : goal.lower-requires-clause-some
lower-requires-clause-some c =
    mixed_some c.args.row.now c.args.pivot.now.column c.args.pivot.now.numbers.items c.args.shares.now c.mix.new.row c.requires.after c.requires.row.positive c.requires.shares.positive c.requires.first
    (mixed (goal.at.lower-requires-clause-some c).After-mix)

pub returns-then-are_narrow-clause-answer : goal.returns-then-are_narrow-clause-answer
returns-then-are_narrow-clause-answer c =
    let form = mixed_form c.args.row.now c.args.pivot.now.column c.args.pivot.now.numbers.items c.args.pivot.now.denominator c.args.shares.now c.mix.new.row c.lower.new.row c.requires.shares
    (mixed (goal.at.returns-then-are_narrow-clause-answer c).After-mix) (c.mix.ensures.count ∙ length-set c.args.row.now c.args.pivot.now.column (pos 0)) c.lower.ensures in
    (form, c.if-are_narrow.ensures)

pub returns-clause-answer : goal.returns-clause-answer
returns-clause-answer c =
    let P : List ℤ → Type 0 = λ row. IsCombination c.args.row.now c.args.pivot.now.column c.args.pivot.now.numbers.items c.args.pivot.now.denominator row × IsWideRow c.args.width row in
    let form = mixed_form c.args.row.now c.args.pivot.now.column c.args.pivot.now.numbers.items c.args.pivot.now.denominator c.args.shares.now c.mix.new.row c.lower.new.row c.requires.shares
    (mixed (goal.at.returns-clause-answer c).After-mix) (c.mix.ensures.count ∙ length-set c.args.row.now c.args.pivot.now.column (pos 0)) c.lower.ensures in
    subst P (sym c.widen.ensures) (form, c.if-are_narrow.ensures)
