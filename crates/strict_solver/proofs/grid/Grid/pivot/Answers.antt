use Rattle.std.proofs.Common.{◌≡◌, ℕ, ◌+◌, ◌∙◌, sym, ap, arith, Some}
use Rattle.std.specs.Prelude.{slice_get}
use Rattle.ntfe_model.specs.Solver.{coefficient_at}
use Rattle.strict_solver.specs.declared.place.Place.TheVariants.{Row, Column}
use Rattle.strict_solver.specs.Rows.{line_in, number}
use Rattle.strict_solver.specs.Grids.{row_at}
use Rattle.strict_solver.proofs.Elimination.{from_place, at_place}
use Rattle.strict_solver.proofs.Placing.{basic_row, other_column, coefficient_there}
use Rattle.strict_solver.proofs.grid.Grid.pivot.Goals as goal
use Rattle.strict_solver.proofs.grid.Grid.pivot.Goals.{Start}

module _ (c : Start) where
  leaves : (r : ℕ) × (slice_get c.args.self.now.places.items c.args.leaving ≡ Some (Row r)) × (c.requires.can.row ≡ line_in c.args.self.now.places.items (row_at (c.args.self.now.columns + 2) c.args.self.now.cells.items r))
  leaves = basic_row (c.args.self.now.columns + 2) c.args.self.now.places.items c.args.self.now.cells.items c.args.leaving c.requires.can.row c.requires.can.is

  enters : (p : ℕ) × (slice_get c.args.self.now.places.items c.args.entering ≡ Some (Column p))
  enters = other_column (c.args.self.now.columns + 2) c.args.self.now.places.items c.args.self.now.cells.items c.args.entering c.requires.can.other

pub index-requires : goal.index-requires
index-requires c =
    let l = leaves (goal.at.index-requires c).Start in
    let f = from_place c.args.self.now.places.items c.args.leaving (Row 0) (Row l.0) l.1 in
    let a = f.0 in
    let k = c.args.self.now.places.ok.0 in
    omega arith

pub unreachable-requires : goal.unreachable-requires
unreachable-requires c =
    let l = leaves (goal.at.unreachable-requires c).Start in
    let f = from_place c.args.self.now.places.items c.args.leaving c.index.result.now (Row l.0) l.1 in
    c.in_default.not-Row l.0 (c.index.ensures ∙ f.1)

pub index-requires-2 : goal.index-requires-2
index-requires-2 c =
    let l = enters (goal.at.index-requires-2 c).Start in
    let f = from_place c.args.self.now.places.items c.args.entering (Row 0) (Column l.0) l.1 in
    let a = f.0 in
    let k = c.args.self.now.places.ok.0 in
    omega arith

pub unreachable-requires-in_default-index : goal.unreachable-requires-in_default-index
unreachable-requires-in_default-index c =
    let l = enters (goal.at.unreachable-requires-in_default-index c).Start in
    let f = from_place c.args.self.now.places.items c.args.entering c.index-2.result.now (Column l.0) l.1 in
    c.in_default-index.not-Column l.0 (c.index-2.ensures ∙ f.1)

pub exchange-requires-clause-leaves : goal.exchange-requires-clause-leaves
exchange-requires-clause-leaves c =
    let l = leaves (goal.at.exchange-requires-clause-leaves c).Start in
    let f = from_place c.args.self.now.places.items c.args.leaving c.index.result.now (Row l.0) l.1 in
    at_place c.args.self.now.places.items c.args.leaving c.index.result.now (Row c.in-Row.r) f.0 (sym c.index.ensures ∙ c.in-Row.is)

pub exchange-requires-clause-enters : goal.exchange-requires-clause-enters
exchange-requires-clause-enters c =
    let l = enters (goal.at.exchange-requires-clause-enters c).Start in
    let f = from_place c.args.self.now.places.items c.args.entering c.index-2.result.now (Column l.0) l.1 in
    at_place c.args.self.now.places.items c.args.entering c.index-2.result.now (Column c.in-Column.p) f.0 (sym c.index-2.ensures ∙ c.in-Column.is)

pub exchange-requires-clause-some : goal.exchange-requires-clause-some
exchange-requires-clause-some c e =
    let s = (goal.at.exchange-requires-clause-some c).Start in
    let l = leaves s in
    let m = enters s in
    let places = c.args.self.now.places.items in
    let f = from_place places c.args.leaving c.index.result.now (Row l.0) l.1 in
    let g = from_place places c.args.entering c.index-2.result.now (Column m.0) m.1 in
    let r : Row c.in-Row.r ≡ Row l.0 = sym c.in-Row.is ∙ c.index.ensures ∙ f.1 in
    let p : Column c.in-Column.p ≡ Column m.0 = sym c.in-Column.is ∙ c.index-2.ensures ∙ g.1 in
    let rs : c.in-Row.r ≡ l.0 = cc in
    let ps : c.in-Column.p ≡ m.0 = cc in
    c.requires.can.not_zero
    (ap (λ k. coefficient_at k c.args.entering) l.2
    ∙ coefficient_there places (row_at (c.args.self.now.columns + 2) c.args.self.now.cells.items l.0) c.args.entering (Column m.0) m.1
    ∙ (λ i. number (row_at (c.args.self.now.columns + 2) c.args.self.now.cells.items (sym rs i)) (sym ps i)) ∙ e)
