use Rattle.std.proofs.Common.{◌∙◌, sym, subst, ℤ, List, length}
use Rattle.strict_solver.specs.Rows.{AreNarrow}
use Rattle.strict_solver.specs.Grids.{row_at, IsEliminated}
use Rattle.strict_solver.proofs.Rows.{wider_low, zero_word}
use Rattle.strict_solver.proofs.Parts.{row_here, row_elsewhere, row_length}
use Rattle.strict_solver.proofs.Combine.{combination_zero}
use Rattle.strict_solver.proofs.grid.eliminate_at.Goals as goal

pub returns-then-row-pivot-eq0-clause-answer : goal.returns-then-row-pivot-eq0-clause-answer
returns-then-row-pivot-eq0-clause-answer c =
    let s = length c.args.scratch.now in
    let old = row_at s c.args.cells.now c.args.r in
    let here = row_here s c.args.cells.now old c.args.r c.requires.room (row_length s c.args.cells.now c.args.r c.requires.room) in
    let P : List ℤ → Type 0 = λ row. IsEliminated c.args.pivot.now old row × AreNarrow c.args.width row in
    subst P (sym here)
    (combination_zero old c.args.pivot.now.column c.args.pivot.now.numbers.items c.args.pivot.now.denominator c.requires.pivot.positive (zero_word _ ((wider_low c.args.width 62 old c.requires.high c.requires.row).narrow.each c.args.pivot.now.column) c.if-row-pivot-eq0.true) c.requires.row.lowest, c.requires.row.narrow)

pub eliminate-requires-clause-row : goal.eliminate-requires-clause-row
eliminate-requires-clause-row c = wider_low c.args.width 62 _ c.requires.high c.requires.row

pub returns-clause-others : goal.returns-clause-others
returns-clause-others c =
    let s = length c.args.scratch.now in
    row_elsewhere s c.args.cells.now c.eliminate.new.row c.args.r c.requires.room (c.eliminate.auto.row ∙ row_length s c.args.cells.now c.args.r c.requires.room)
