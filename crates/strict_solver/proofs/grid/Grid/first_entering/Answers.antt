use Rattle.std.proofs.Common.{◌≡◌, ◌+◌, ◌∙◌, sym, ap, arith, false, pos, length, to_z, of_z, w64}
use Rattle.std.specs.Prelude.{int_lt}
use Rattle.strict_solver.specs.declared.place.Place.TheVariants.{Row, Column}
use Rattle.strict_solver.specs.Rows.{number, line_in}
use Rattle.strict_solver.specs.Grids.{row_at, lines_of}
use Rattle.strict_solver.proofs.Rows.{unwrap64}
use Rattle.strict_solver.proofs.Elimination.{at_place}
use Rattle.strict_solver.proofs.Placing.{lines-length}
use Rattle.strict_solver.proofs.Searches.{entering_test, entering_column, entering_basic, first_entering_is, first_entering_other, found_at, found_nowhere, below_next}
use Rattle.strict_solver.proofs.grid.Grid.first_entering.Goals as goal
use Rattle.strict_solver.proofs.grid.Grid.first_entering.Goals.{in-Column+else-cell-gt0, in_default-index}

pub cell-requires-clause-room : goal.cell-requires-clause-room
cell-requires-clause-room c =
    let places = c.args.self.now.places.items in
    let k = c.args.self.now.places.ok.0 in
    let is = at_place places c.args.leaving c.index.result.now (Row c.in-Row.r) c.requires.within (sym c.index.ensures ∙ c.in-Row.is) in
    c.requires.grid.room c.in-Row.r (c.requires.grid.placing.rows_within c.args.leaving c.in-Row.r is)

pub cell-requires-clause-within : goal.cell-requires-clause-within
cell-requires-clause-within c =
    let places = c.args.self.now.places.items in
    let k = c.args.self.now.places.ok.0 in
    let is = at_place places c.loop-y.y c.index-in-loop-y.result.now (Column c.in-Column.p) (omega arith) (sym c.index-in-loop-y.ensures ∙ c.in-Column.is) in
    (c.requires.grid.placing.columns_within c.loop-y.y c.in-Column.p is).1

pub returns-in_default : goal.returns-in_default
returns-in_default c =
    let g = c.args.self.now in
    sym (first_entering_other g.columns (g.columns + 2) g.places.items g.cells.items c.args.leaving c.in_default.field-0
    (at_place g.places.items c.args.leaving c.index.result.now (Column c.in_default.field-0) c.requires.within (sym c.index.ensures ∙ c.in_default.is)))

pub loop-y-preserved : goal.loop-y-preserved
loop-y-preserved c =
    let g = c.args.self.now in
    let s = g.columns + 2 in
    let y = c.loop-y.y in
    let places = g.places.items in
    let cells = g.cells.items in
    let k = g.places.ok.0 in
    let row = row_at s cells c.in-Row.r in
    let leaving = at_place places c.args.leaving c.index.result.now (Row c.in-Row.r) c.requires.within (sym c.index.ensures ∙ c.in-Row.is) in
    below_next (λ j. entering_test g.columns (lines_of g) (line_in places row) j ≡ false) y c.loop-y.invariant
    (elim c.match-index-2.branch [
      | in-Column+else-cell-gt0 w ↦
          (let is = at_place places y c.index-in-loop-y.result.now (Column w.in-Column.p) (omega arith) (sym c.index-in-loop-y.ensures ∙ w.in-Column.is) in
          let word : to_z w64 (of_z w64 w.cell.result.now) ≡ number row w.in-Column.p = ap (λ n. to_z w64 (of_z w64 n)) w.cell.ensures ∙ unwrap64 (number row w.in-Column.p) ((c.requires.grid.low c.args.leaving c.in-Row.r leaving).narrow.each w.in-Column.p) in
          entering_column g.columns s places cells row y w.in-Column.p (omega arith) is ∙ ap (int_lt (pos 0)) (sym word) ∙ w.if-cell-gt0.false)
      | in_default-index w ↦
          entering_basic g.columns s places cells row y w.in_default-index.field-0 (at_place places y c.index-in-loop-y.result.now (Row w.in_default-index.field-0) (omega arith) (sym c.index-in-loop-y.ensures ∙ w.in_default-index.is))
    ])

pub returns-then-cell-gt0 : goal.returns-then-cell-gt0
returns-then-cell-gt0 c =
    let g = c.args.self.now in
    let s = g.columns + 2 in
    let y = c.loop-y.y in
    let places = g.places.items in
    let cells = g.cells.items in
    let k = g.places.ok.0 in
    let row = row_at s cells c.in-Row.r in
    let leaving = at_place places c.args.leaving c.index.result.now (Row c.in-Row.r) c.requires.within (sym c.index.ensures ∙ c.in-Row.is) in
    let is = at_place places y c.index-in-loop-y.result.now (Column c.in-Column.p) (omega arith) (sym c.index-in-loop-y.ensures ∙ c.in-Column.is) in
    let word : to_z w64 (of_z w64 c.cell.result.now) ≡ number row c.in-Column.p = ap (λ n. to_z w64 (of_z w64 n)) c.cell.ensures ∙ unwrap64 (number row c.in-Column.p) ((c.requires.grid.low c.args.leaving c.in-Row.r leaving).narrow.each c.in-Column.p) in
    let n = lines-length s places cells in
    sym (first_entering_is g.columns s places cells c.args.leaving c.in-Row.r leaving
    ∙ found_at (entering_test g.columns (lines_of g) (line_in places row)) (length (lines_of g)) y
    (entering_column g.columns s places cells row y c.in-Column.p (omega arith) is ∙ ap (int_lt (pos 0)) (sym word) ∙ c.if-cell-gt0.true) c.loop-y.invariant (omega arith))

pub returns : goal.returns
returns c =
    let g = c.args.self.now in
    let s = g.columns + 2 in
    let k = g.places.ok.0 in
    let n = lines-length s g.places.items g.cells.items in
    let leaving = at_place g.places.items c.args.leaving c.index.result.now (Row c.in-Row.r) c.requires.within (sym c.index.ensures ∙ c.in-Row.is) in
    sym (first_entering_is g.columns s g.places.items g.cells.items c.args.leaving c.in-Row.r leaving
    ∙ found_nowhere (entering_test g.columns (lines_of g) (line_in g.places.items (row_at s g.cells.items c.in-Row.r))) (length (lines_of g)) (λ j l. c.loop-y.invariant j (omega arith)))
