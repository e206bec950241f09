use Rattle.std.proofs.Common.{◌≡◌, ◌≢◌, ℕ, ◌+◌, ◌*◌, ◌^◌, ◌<◌, ◌≤◌, ◌==◌, ◌∙◌, Bool, true, false, cond, refl, sym, ap, subst, arith, ℤ, pos, neg_ℤ, unsigned_abs, length, get_or, Option, Some, None, to_z, of_z, w64, FitsSigned}
use Rattle.std.specs.Prelude.{slice_get}
use Rattle.std.proofs.lemmas.Int.{ints, fits_signed_from_abs}
use Rattle.std.proofs.lemmas.Bool.Decides.{nat_tests}
use Rattle.ntfe_nums.proofs.Comparisons.{test_from_same}
use Rattle.ntfe_model.specs.Solver.{Line, multiplier_at, coefficient_at}
use Rattle.strict_solver.specs.declared.place.Place.TheVariants.{Row, Column}
use Rattle.strict_solver.specs.declared.grid.Grid.{Grid}
use Rattle.strict_solver.specs.Rows.{number, line_in, IsLowRow}
use Rattle.strict_solver.specs.Grids.{row_at, lines_of}
use Rattle.strict_solver.proofs.Rows.{unwrap64}
use Rattle.strict_solver.proofs.Elimination.{at_place}
use Rattle.strict_solver.proofs.Placing.{line_there, coefficient_there}
use Rattle.strict_solver.proofs.Tables.{get_line}
use Rattle.strict_solver.proofs.grid.Grid.multiplier.Goals as goal
use Rattle.strict_solver.proofs.grid.Grid.multiplier.Goals.{In-Row}
use Rattle.ntfe_model.proofs.Lists.{some_once}

other_test : (m n : ℕ) → m ≢ n → (m == n) ≡ false
other_test m n e = by (m == n) refl
  where
    by : (b : Bool) → (m == n) ≡ b → b ≡ false
    by true f = absurd (e (let g : m ≡ n = grind (arith, nat_tests) in g))
    by false f = refl

-- the multiplier of the slack's own row, and of another one
own_multiplier : (columns x j : ℕ) (r : Line) → columns + j ≡ x → r.d ≡ multiplier_at columns x r j
own_multiplier columns x j r e = sym (ap (λ b. cond b r.d (pos (unsigned_abs (coefficient_at r (columns + j))))) (test_from_same (columns + j) x e))

other_multiplier : (columns x j : ℕ) (r : Line) → columns + j ≢ x → pos (unsigned_abs (coefficient_at r (columns + j))) ≡ multiplier_at columns x r j
other_multiplier columns x j r e = sym (ap (λ b. cond b r.d (pos (unsigned_abs (coefficient_at r (columns + j))))) (other_test (columns + j) x e))

line_is : (g : Grid) (x r : ℕ) (line : Line) → slice_get g.places.items x ≡ Some (Row r) → get_or (lines_of g) x None ≡ Some line → line_in g.places.items (row_at (g.columns + 2) g.cells.items r) ≡ line
line_is g x r line e f = some_once (line_in g.places.items (row_at (g.columns + 2) g.cells.items r)) line (sym (get_line _ x _ (line_there (g.columns + 2) g.places.items g.cells.items x (Row r) e)) ∙ f)

module _ (c : In-Row) where
  is : slice_get c.args.self.now.places.items c.args.slack ≡ Some (Row c.in-Row.r)
  is = at_place c.args.self.now.places.items c.args.slack c.index.result.now (Row c.in-Row.r) c.requires.slack (sym c.index.ensures ∙ c.in-Row.is)

  room : c.in-Row.r * (c.args.self.now.columns + 2) + (c.args.self.now.columns + 2) ≤ length c.args.self.now.cells.items
  room = c.requires.grid.room c.in-Row.r (c.requires.grid.placing.rows_within c.args.slack c.in-Row.r is)

  low : IsLowRow 62 (row_at (c.args.self.now.columns + 2) c.args.self.now.cells.items c.in-Row.r)
  low = c.requires.grid.low c.args.slack c.in-Row.r is

pub returns-in_default-clause-value : goal.returns-in_default-clause-value
returns-in_default-clause-value c = λ line e.
    let g = c.args.self.now in
    let a = at_place g.places.items c.args.slack c.index.result.now (Column c.in_default.field-0) c.requires.slack (sym c.index.ensures ∙ c.in_default.is) in
    absurd (never _ line (get_line _ c.args.slack _ (line_there (g.columns + 2) g.places.items g.cells.items c.args.slack (Column c.in_default.field-0) a)) e)
  where
    never : (o : Option Line) (l : Line) → o ≡ None → o ≡ Some l → ⊥
    never o l h i = cc

pub cell-requires-clause-room : goal.cell-requires-clause-room
cell-requires-clause-room c = room (goal.at.cell-requires-clause-room c).In-Row

pub returns-then-self-row-clause-value : goal.returns-then-self-row-clause-value
returns-then-self-row-clause-value c = λ line e.
    let a = (goal.at.returns-then-self-row-clause-value c).In-Row in
    let g = c.args.self.now in
    (λ i. to_z w64 (of_z w64 (c.cell.ensures i))) ∙ unwrap64 (number (row_at (g.columns + 2) g.cells.items c.in-Row.r) 0) ((low a).narrow.each 0)
    ∙ ap (λ l. l.d) (line_is g c.args.slack c.in-Row.r line (is a) e)
    ∙ own_multiplier g.columns c.args.slack c.args.row line c.if-self-row.true

pub returns-then-self-row-clause-size : goal.returns-then-self-row-clause-size
returns-then-self-row-clause-size c =
    let a = (goal.at.returns-then-self-row-clause-size c).In-Row in
    let g = c.args.self.now in
    subst (λ z. unsigned_abs z < 2 ^ 62) (sym ((λ i. to_z w64 (of_z w64 (c.cell.ensures i))) ∙ unwrap64 (number (row_at (g.columns + 2) g.cells.items c.in-Row.r) 0) ((low a).narrow.each 0))) ((low a).narrow.each 0)

pub cell-requires-in-Column-clause-room : goal.cell-requires-in-Column-clause-room
cell-requires-in-Column-clause-room c = room (goal.at.cell-requires-in-Column-clause-room c).In-Row

pub cell-requires-in-Column-clause-within : goal.cell-requires-in-Column-clause-within
cell-requires-in-Column-clause-within c =
    let g = c.args.self.now in
    (c.requires.grid.placing.columns_within (g.columns + c.args.row) c.in-Column.p (at_place g.places.items (g.columns + c.args.row) c.index-2.result.now (Column c.in-Column.p) c.requires.row (sym c.index-2.ensures ∙ c.in-Column.is))).1

pub abs-requires : goal.abs-requires
abs-requires c =
    let a = (goal.at.abs-requires c).In-Row in
    let g = c.args.self.now in
    let z = number (row_at (g.columns + 2) g.cells.items c.in-Row.r) c.in-Column.p in
    let word : to_z w64 (of_z w64 c.cell-in-Column.result.now) ≡ z = (λ i. to_z w64 (of_z w64 (c.cell-in-Column.ensures i))) ∙ unwrap64 z ((low a).narrow.each c.in-Column.p) in
    subst (λ k. FitsSigned w64 (neg_ℤ k)) (sym word) (fits_signed_from_abs w64 (neg_ℤ z) (small z ((low a).narrow.each c.in-Column.p)))
  where
    small : (z : ℤ) → unsigned_abs z < 2 ^ 62 → unsigned_abs (neg_ℤ z) < 2 ^ 63
    small z h = omega (arith, ints)

-- the word of a size
size_word : (r w z : ℤ) → r ≡ pos (unsigned_abs w) → w ≡ z → unsigned_abs z < 2 ^ 62 → to_z w64 (of_z w64 r) ≡ pos (unsigned_abs z)
size_word r w z e f h = ap (λ k. to_z w64 (of_z w64 k)) (e ∙ ap (λ k. pos (unsigned_abs k)) f) ∙ unwrap64 (pos (unsigned_abs z)) h

pub returns-in-Column-clause-value : goal.returns-in-Column-clause-value
returns-in-Column-clause-value c = λ line e.
    let a = (goal.at.returns-in-Column-clause-value c).In-Row in
    let g = c.args.self.now in
    let z = number (row_at (g.columns + 2) g.cells.items c.in-Row.r) c.in-Column.p in
    let word : to_z w64 (of_z w64 c.cell-in-Column.result.now) ≡ z = (λ i. to_z w64 (of_z w64 (c.cell-in-Column.ensures i))) ∙ unwrap64 z ((low a).narrow.each c.in-Column.p) in
    let o = at_place g.places.items (g.columns + c.args.row) c.index-2.result.now (Column c.in-Column.p) c.requires.row (sym c.index-2.ensures ∙ c.in-Column.is) in
    size_word c.abs.result _ z c.abs.ensures.value word ((low a).narrow.each c.in-Column.p)
    ∙ ap (λ k. pos (unsigned_abs k)) (sym (coefficient_there g.places.items (row_at (g.columns + 2) g.cells.items c.in-Row.r) (g.columns + c.args.row) (Column c.in-Column.p) o))
    ∙ ap (λ l. pos (unsigned_abs (coefficient_at l (g.columns + c.args.row)))) (line_is g c.args.slack c.in-Row.r line (is a) e)
    ∙ other_multiplier g.columns c.args.slack c.args.row line c.if-self-row.false

pub returns-in-Column-clause-size : goal.returns-in-Column-clause-size
returns-in-Column-clause-size c =
    let a = (goal.at.returns-in-Column-clause-size c).In-Row in
    let g = c.args.self.now in
    let z = number (row_at (g.columns + 2) g.cells.items c.in-Row.r) c.in-Column.p in
    let word : to_z w64 (of_z w64 c.cell-in-Column.result.now) ≡ z = (λ i. to_z w64 (of_z w64 (c.cell-in-Column.ensures i))) ∙ unwrap64 z ((low a).narrow.each c.in-Column.p) in
    subst (λ k. unsigned_abs k < 2 ^ 62) (sym (size_word c.abs.result _ z c.abs.ensures.value word ((low a).narrow.each c.in-Column.p))) ((low a).narrow.each c.in-Column.p)

pub returns-in-Row-index-clause-value : goal.returns-in-Row-index-clause-value
returns-in-Row-index-clause-value c = λ line e.
    let a = (goal.at.returns-in-Row-index-clause-value c).In-Row in
    let g = c.args.self.now in
    let o = at_place g.places.items (g.columns + c.args.row) c.index-2.result.now (Row c.in-Row-index.field-0) c.requires.row (sym c.index-2.ensures ∙ c.in-Row-index.is) in
    ap (λ z. pos (unsigned_abs z)) (sym (coefficient_there g.places.items (row_at (g.columns + 2) g.cells.items c.in-Row.r) (g.columns + c.args.row) (Row c.in-Row-index.field-0) o))
    ∙ ap (λ l. pos (unsigned_abs (coefficient_at l (g.columns + c.args.row)))) (line_is g c.args.slack c.in-Row.r line (is a) e)
    ∙ other_multiplier g.columns c.args.slack c.args.row line c.if-self-row.false
