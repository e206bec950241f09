use Rattle.std.proofs.Common.{◌≡◌, ◌+◌, ◌∙◌, sym, ap, arith, Bool, false, pos, to_z, of_z, w64}
use Rattle.std.specs.Prelude.{int_lt}
use Rattle.ntfe_model.specs.Solver.{Line}
use Rattle.strict_solver.specs.declared.place.Place.TheVariants.{Row, Column}
use Rattle.strict_solver.specs.Rows.{number}
use Rattle.strict_solver.specs.Grids.{row_at, lines_of}
use Rattle.strict_solver.proofs.Rows.{unwrap64}
use Rattle.strict_solver.proofs.Elimination.{at_place}
use Rattle.strict_solver.proofs.Placing.{lines-length}
use Rattle.strict_solver.proofs.Searches.{slack_test, slack_line, slack_other, first_slack_at, first_slack_none, below_next}
use Rattle.strict_solver.proofs.grid.Grid.first_negative.Goals as goal
use Rattle.strict_solver.proofs.grid.Grid.first_negative.Goals.{in-Row+else-cell-lt0, in_default}

abbrev test : Line → Bool
test r = int_lt r.c (pos 0)

pub cell-requires-clause-room : goal.cell-requires-clause-room
cell-requires-clause-room c =
    let places = c.args.self.now.places.items in
    let k = c.args.self.now.places.ok.0 in
    let is = at_place places c.loop-x.x c.index.result.now (Row c.in-Row.r) (omega arith) (sym c.index.ensures ∙ c.in-Row.is) in
    c.requires.room c.in-Row.r (c.requires.placing.rows_within c.loop-x.x c.in-Row.r is)

pub loop-x-preserved : goal.loop-x-preserved
loop-x-preserved c =
    let g = c.args.self.now in
    let s = g.columns + 2 in
    let x = c.loop-x.x in
    let places = g.places.items in
    let cells = g.cells.items in
    let k = g.places.ok.0 in
    below_next (λ j. slack_test g.columns test (lines_of g) j ≡ false) x c.loop-x.invariant
    (elim c.match-index.branch [
      | in-Row+else-cell-lt0 w ↦
          (let is = at_place places x c.index.result.now (Row w.in-Row.r) (omega arith) (sym c.index.ensures ∙ w.in-Row.is) in
          let z = w.cell.ensures in
          let word : to_z w64 (of_z w64 w.cell.result.now) ≡ number (row_at s cells w.in-Row.r) 1 = ap (λ n. to_z w64 (of_z w64 n)) z ∙ unwrap64 (number (row_at s cells w.in-Row.r) 1) ((c.requires.low x w.in-Row.r is).narrow.each 1) in
          slack_line g.columns test s places cells x w.in-Row.r (omega arith) is ∙ ap (λ n. int_lt n (pos 0)) (sym word) ∙ w.if-cell-lt0.false)
      | in_default w ↦
          slack_other g.columns test s places cells x w.in_default.field-0 (at_place places x c.index.result.now (Column w.in_default.field-0) (omega arith) (sym c.index.ensures ∙ w.in_default.is))
    ])

pub returns-then-cell-lt0 : goal.returns-then-cell-lt0
returns-then-cell-lt0 c =
    let g = c.args.self.now in
    let s = g.columns + 2 in
    let x = c.loop-x.x in
    let places = g.places.items in
    let cells = g.cells.items in
    let k = g.places.ok.0 in
    let is = at_place places x c.index.result.now (Row c.in-Row.r) (omega arith) (sym c.index.ensures ∙ c.in-Row.is) in
    let z = c.cell.ensures in
    let n = lines-length s places cells in
    let word : to_z w64 (of_z w64 c.cell.result.now) ≡ number (row_at s cells c.in-Row.r) 1 = ap (λ n. to_z w64 (of_z w64 n)) z ∙ unwrap64 (number (row_at s cells c.in-Row.r) 1) ((c.requires.low x c.in-Row.r is).narrow.each 1) in
    sym (first_slack_at g.columns test (lines_of g) x (slack_line g.columns test s places cells x c.in-Row.r (omega arith) is ∙ ap (λ n. int_lt n (pos 0)) (sym word) ∙ c.if-cell-lt0.true) c.loop-x.invariant (omega arith))

pub returns : goal.returns
returns c =
    let g = c.args.self.now in
    let n = lines-length (g.columns + 2) g.places.items g.cells.items in
    let k = g.places.ok.0 in
    sym (first_slack_none g.columns test (lines_of g) (λ j l. c.loop-x.invariant j (omega arith)))
