use Rattle.std.proofs.Common.{◌≡◌, ℕ, ◌+◌, ◌∙◌, sym, ap, arith, Bool, false, not, pos, of_z, w64}
use Rattle.std.specs.Ordering.{int_eq}
use Rattle.ntfe_model.specs.Solver.{Line, coefficient_at}
use Rattle.strict_solver.specs.declared.place.Place.TheVariants.{Row, Column}
use Rattle.strict_solver.specs.Rows.{number, line_in}
use Rattle.strict_solver.specs.Grids.{row_at, lines_of}
use Rattle.strict_solver.proofs.Rows.{zero_word}
use Rattle.strict_solver.proofs.Elimination.{at_place}
use Rattle.strict_solver.proofs.Placing.{lines-length, coefficient_there}
use Rattle.strict_solver.proofs.Searches.{slack_test, slack_line, slack_other, first_slack_at, first_slack_none, below_next, height_basic}
use Rattle.strict_solver.proofs.grid.Grid.first_with.Goals as goal
use Rattle.strict_solver.proofs.grid.Grid.first_with.Goals.{in-Row+else-cell-ne0, in_default-index}
use Rattle.ntfe_nums.proofs.Signs.{bits_of_zero}
use Rattle.ntfe_nums.proofs.Comparisons.{zero_fails, other_passes}

abbrev test : ℕ → Line → Bool
test height r = not (int_eq (coefficient_at r height) (pos 0))

pub cell-requires-clause-room : goal.cell-requires-clause-room
cell-requires-clause-room c =
    let places = c.args.self.now.places.items in
    let k = c.args.self.now.places.ok.0 in
    let is = at_place places c.loop-x.x c.index-in-loop-x.result.now (Row c.in-Row.r) (omega arith) (sym c.index-in-loop-x.ensures ∙ c.in-Row.is) in
    c.requires.grid.room c.in-Row.r (c.requires.grid.placing.rows_within c.loop-x.x c.in-Row.r is)

pub cell-requires-clause-within : goal.cell-requires-clause-within
cell-requires-clause-within c =
    let places = c.args.self.now.places.items in
    let k = c.args.self.now.places.ok.0 in
    let h = c.requires.grid.placing.count in
    let is = at_place places c.args.height c.index.result.now (Column c.in-Column.p) (omega arith) (sym c.index.ensures ∙ c.in-Column.is) in
    (c.requires.grid.placing.columns_within c.args.height c.in-Column.p is).1

pub returns-in_default : goal.returns-in_default
returns-in_default c =
    let g = c.args.self.now in
    let s = g.columns + 2 in
    let k = g.places.ok.0 in
    let h = c.requires.grid.placing.count in
    let is = at_place g.places.items c.args.height c.index.result.now (Row c.in_default.field-0) (omega arith) (sym c.index.ensures ∙ c.in_default.is) in
    sym (first_slack_none g.columns (test c.args.height) (lines_of g) (λ j l. height_basic g.columns s g.places.items g.cells.items c.args.height c.in_default.field-0 is j (let n = lines-length s g.places.items g.cells.items in omega arith)))

pub loop-x-preserved : goal.loop-x-preserved
loop-x-preserved c =
    let g = c.args.self.now in
    let s = g.columns + 2 in
    let x = c.loop-x.x in
    let height = c.args.height in
    let places = g.places.items in
    let cells = g.cells.items in
    let k = g.places.ok.0 in
    let h = c.requires.grid.placing.count in
    let column = at_place places height c.index.result.now (Column c.in-Column.p) (omega arith) (sym c.index.ensures ∙ c.in-Column.is) in
    below_next (λ j. slack_test g.columns (test height) (lines_of g) j ≡ false) x c.loop-x.invariant
    (elim c.match-index-2.branch [
      | in-Row+else-cell-ne0 w ↦
          (let is = at_place places x c.index-in-loop-x.result.now (Row w.in-Row.r) (omega arith) (sym c.index-in-loop-x.ensures ∙ w.in-Row.is) in
          let row = row_at s cells w.in-Row.r in
          let z = ap (of_z w64) (sym w.cell.ensures) ∙ w.if-cell-ne0.false in
          slack_line g.columns (test height) s places cells x w.in-Row.r (omega arith) is
          ∙ zero_fails (coefficient_at (line_in places row) height) (coefficient_there places row height (Column c.in-Column.p) column ∙ zero_word (number row c.in-Column.p) ((c.requires.grid.low x w.in-Row.r is).narrow.each c.in-Column.p) z))
      | in_default-index w ↦
          slack_other g.columns (test height) s places cells x w.in_default-index.field-0 (at_place places x c.index-in-loop-x.result.now (Column w.in_default-index.field-0) (omega arith) (sym c.index-in-loop-x.ensures ∙ w.in_default-index.is))
    ])

pub returns-then-cell-ne0 : goal.returns-then-cell-ne0
returns-then-cell-ne0 c =
    let g = c.args.self.now in
    let s = g.columns + 2 in
    let x = c.loop-x.x in
    let height = c.args.height in
    let places = g.places.items in
    let cells = g.cells.items in
    let k = g.places.ok.0 in
    let h = c.requires.grid.placing.count in
    let column = at_place places height c.index.result.now (Column c.in-Column.p) (omega arith) (sym c.index.ensures ∙ c.in-Column.is) in
    let is = at_place places x c.index-in-loop-x.result.now (Row c.in-Row.r) (omega arith) (sym c.index-in-loop-x.ensures ∙ c.in-Row.is) in
    let row = row_at s cells c.in-Row.r in
    let n = lines-length s places cells in
    sym (first_slack_at g.columns (test height) (lines_of g) x
    (slack_line g.columns (test height) s places cells x c.in-Row.r (omega arith) is
    ∙ other_passes (coefficient_at (line_in places row) height)
    (λ e. c.if-cell-ne0.true (ap (of_z w64) c.cell.ensures ∙ bits_of_zero (number row c.in-Column.p) (sym (coefficient_there places row height (Column c.in-Column.p) column) ∙ e))))
    c.loop-x.invariant (omega arith))

pub returns : goal.returns
returns c =
    let g = c.args.self.now in
    let n = lines-length (g.columns + 2) g.places.items g.cells.items in
    let k = g.places.ok.0 in
    sym (first_slack_none g.columns (test c.args.height) (lines_of g) (λ j l. c.loop-x.invariant j (omega arith)))
