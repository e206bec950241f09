use Rattle.std.proofs.Common.{◌≡◌, ◌+◌, ◌*◌, ◌^◌, ◌<◌, ◌≤◌, ◌∙◌, sym, ap, subst, arith, pos, ◌<ℤ◌, unsigned_abs, length, Some}
use Rattle.std.specs.Prelude.{slice_get}
use Rattle.strict_solver.specs.declared.place.Place.TheVariants.{Row, Column}
use Rattle.strict_solver.specs.Rows.{IsLowRow}
use Rattle.strict_solver.specs.Grids.{row_at}
use Rattle.strict_solver.specs.Scales.{scale_next, common_multiple, reduced_denominator}
use Rattle.strict_solver.proofs.Elimination.{at_place}
use Rattle.strict_solver.proofs.Placing.{line_there}
use Rattle.strict_solver.proofs.Tables.{get_line}
use Rattle.strict_solver.proofs.grid.Grid.scale_after.Goals as goal
use Rattle.strict_solver.proofs.grid.Grid.scale_after.Goals.{In-Row}

module _ (c : In-Row) where
  is : slice_get c.args.self.now.places.items c.args.k ≡ Some (Row c.in-Row.r)
  is =
      let h = c.requires.grid.placing.count in
      let w = c.requires.within in
      at_place c.args.self.now.places.items c.args.k c.index.result.now (Row c.in-Row.r) (omega arith) (sym c.index.ensures ∙ c.in-Row.is)

  room : c.in-Row.r * (c.args.self.now.columns + 2) + (c.args.self.now.columns + 2) ≤ length c.args.self.now.cells.items
  room = c.requires.grid.room c.in-Row.r (c.requires.grid.placing.rows_within c.args.k c.in-Row.r is)

  low : IsLowRow 62 (row_at (c.args.self.now.columns + 2) c.args.self.now.cells.items c.in-Row.r)
  low = c.requires.grid.low c.args.k c.in-Row.r is

pub cell-requires-clause-room : goal.cell-requires-clause-room
cell-requires-clause-room c = room (goal.at.cell-requires-clause-room c).In-Row

pub cell-requires-in-Row-clause-room : goal.cell-requires-in-Row-clause-room
cell-requires-in-Row-clause-room c = room (goal.at.cell-requires-in-Row-clause-room c).In-Row

pub next_scale-requires-clause-d : goal.next_scale-requires-clause-d
next_scale-requires-clause-d c = subst (λ z. pos 0 <ℤ z) (sym c.cell.ensures) (low (goal.at.next_scale-requires-clause-d c).In-Row).positive

pub next_scale-requires-clause-small : goal.next_scale-requires-clause-small
next_scale-requires-clause-small c = subst (λ z. unsigned_abs z < 2 ^ 62) (sym c.cell.ensures) ((low (goal.at.next_scale-requires-clause-small c).In-Row).narrow.each 0)

pub next_scale-requires-clause-fits : goal.next_scale-requires-clause-fits
next_scale-requires-clause-fits c = subst (λ z. unsigned_abs z < 2 ^ 62) (sym c.cell-in-Row.ensures) ((low (goal.at.next_scale-requires-clause-fits c).In-Row).narrow.each 1)

pub returns-in-Row-clause-value : goal.returns-in-Row-clause-value
returns-in-Row-clause-value c =
    let g = c.args.self.now in
    let a = is (goal.at.returns-in-Row-clause-value c).In-Row in
    c.next_scale.ensures.value
    ∙ (λ i. common_multiple c.args.scale (reduced_denominator (unsigned_abs (c.cell.ensures i)) (unsigned_abs (c.cell-in-Row.ensures i))))
    ∙ ap (scale_next c.args.scale) (sym (get_line _ c.args.k _ (line_there (g.columns + 2) g.places.items g.cells.items c.args.k (Row c.in-Row.r) a)))

pub returns-in-Column-clause-value : goal.returns-in-Column-clause-value
returns-in-Column-clause-value c =
    let g = c.args.self.now in
    let h = c.requires.grid.placing.count in
    let w = c.requires.within in
    let a = at_place g.places.items c.args.k c.index.result.now (Column c.in-Column.field-0) (omega arith) (sym c.index.ensures ∙ c.in-Column.is) in
    c.from.ensures ∙ ap (scale_next c.args.scale) (sym (get_line _ c.args.k _ (line_there (g.columns + 2) g.places.items g.cells.items c.args.k (Column c.in-Column.field-0) a)))
