use Rattle.std.proofs.Common.{◌≡◌, ℕ, ◌+◌, ◌<◌, ◌∙◌, sym, ap, subst, arith, ℤ, pos, List, length, set, length-set, Some, Option, None}
use Rattle.std.specs.Prelude.{vec_len, MatchOption}
use Rattle.std.specs.Vec.{with_items}
use Rattle.strict_solver.specs.declared.place.Place.{Place}
use Rattle.strict_solver.specs.declared.place.Place.TheVariants.{Row, Column}
use Rattle.strict_solver.specs.Grids.{row_at, AreRowsFor, AreEliminated, IsFirstWideRow}
use Rattle.strict_solver.proofs.Rows.{wider_low}
use Rattle.strict_solver.proofs.Parts.{lent_back, row_length}
use Rattle.strict_solver.proofs.Elimination.{from_place}
use Rattle.strict_solver.proofs.Exchange.{ready, pivot_row, plainly, grid_after, wide_pivot}
use Rattle.strict_solver.proofs.grid.Grid.exchange.Goals as goal
use Rattle.strict_solver.proofs.grid.Grid.exchange.Goals.{Start, After-take_pivot_row}

module _ (c : Start) where
  x_within : c.args.leaving < length c.args.self.now.places.items
  x_within = (from_place c.args.self.now.places.items c.args.leaving (Row 0) (Row c.args.r) c.requires.leaves).0

  y_within : c.args.entering < length c.args.self.now.places.items
  y_within = (from_place c.args.self.now.places.items c.args.entering (Row 0) (Column c.args.p) c.requires.enters).0

  r_within : c.args.self.now.columns + c.args.r < length c.args.self.now.places.items
  r_within = c.requires.grid.placing.rows_within c.args.leaving c.args.r c.requires.leaves

pub take_pivot_row-requires-clause-room : goal.take_pivot_row-requires-clause-room
take_pivot_row-requires-clause-room c = let s = (goal.at.take_pivot_row-requires-clause-room c).Start in c.requires.grid.room c.args.r (r_within s)

pub take_pivot_row-requires-clause-row : goal.take_pivot_row-requires-clause-row
take_pivot_row-requires-clause-row c = (wider_low c.args.width 62 _ c.requires.high (c.requires.grid.low c.args.leaving c.args.r c.requires.leaves)).narrow

pub take_pivot_row-requires-clause-after : goal.take_pivot_row-requires-clause-after
take_pivot_row-requires-clause-after c = (c.requires.grid.placing.columns_within c.args.entering c.args.p c.requires.enters).0

pub take_pivot_row-requires-clause-within : goal.take_pivot_row-requires-clause-within
take_pivot_row-requires-clause-within c = (c.requires.grid.placing.columns_within c.args.entering c.args.p c.requires.enters).1

pub index_mut-requires : goal.index_mut-requires
index_mut-requires c =
    let s = (goal.at.index_mut-requires c).Start in
    let l = x_within s in
    let e = ap vec_len c.take_pivot_row.ensures.places in
    let k = c.args.self.now.places.ok.0 in
    omega arith

pub index_mut-requires-2 : goal.index_mut-requires-2
index_mut-requires-2 c =
    let s = (goal.at.index_mut-requires-2 c).Start in
    let l = y_within s in
    let e = ap vec_len c.take_pivot_row.ensures.places in
    let k = c.args.self.now.places.ok.0 in
    omega arith

module _ (c : After-take_pivot_row) where
  scratch_count : length c.take_pivot_row.new.self.scratch.items ≡ c.args.self.now.columns + 2
  scratch_count = ap (λ v. length v.items) c.take_pivot_row.ensures.scratch ∙ c.requires.grid.scratch

  places_same : set (set c.take_pivot_row.new.self.places.items c.args.leaving (Column c.args.p)) c.args.entering (Row c.args.r) ≡ set (set c.args.self.now.places.items c.args.leaving (Column c.args.p)) c.args.entering (Row c.args.r)
  places_same = ap (λ v. set (set v.items c.args.leaving (Column c.args.p)) c.args.entering (Row c.args.r)) c.take_pivot_row.ensures.places

  numbers_count : length c.take_pivot_row.new.self.pivot.numbers.items ≡ c.args.self.now.columns + 2
  numbers_count =
      ap (λ (k : List ℤ). length k) c.take_pivot_row.ensures.numbers ∙ length-set (row_at (c.args.self.now.columns + 2) c.take_pivot_row.new.self.cells.items c.args.r) 0 (pos 0) ∙ c.take_pivot_row.ensures.solved.count
      ∙ row_length (c.args.self.now.columns + 2) c.args.self.now.cells.items c.args.r (c.requires.grid.room c.args.r (c.requires.grid.placing.rows_within c.args.leaving c.args.r c.requires.leaves))

pub eliminate_rows-requires-clause-pivot : goal.eliminate_rows-requires-clause-pivot
eliminate_rows-requires-clause-pivot c =
    let a = (goal.at.eliminate_rows-requires-clause-pivot c).After-take_pivot_row in
    let g = c.args.self.now in
    let e = c.take_pivot_row.ensures in
    let mid = c.take_pivot_row.new.self.cells.items in
    let count : length c.deref_mut-2.result.now ≡ g.columns + 2 = ap (λ (k : List ℤ). length k) c.deref_mut-2.ensures.value ∙ scratch_count a in
    pivot_row c.args.width c.args.leaving c.args.entering c.args.r c.args.p g mid c.requires.grid c.requires.leaves c.requires.enters c.requires.some e.solved e.others
    c.take_pivot_row.new.self.pivot e.row e.column e.denominator e.numbers (length c.deref_mut-2.result.now) count c.requires.high e.largest

pub eliminate_rows-requires-clause-rows : goal.eliminate_rows-requires-clause-rows
eliminate_rows-requires-clause-rows c =
    let a = (goal.at.eliminate_rows-requires-clause-rows c).After-take_pivot_row in
    let g = c.args.self.now in
    let e = c.take_pivot_row.ensures in
    let mid = c.take_pivot_row.new.self.cells.items in
    let count : length c.deref_mut-2.result.now ≡ g.columns + 2 = ap (λ (k : List ℤ). length k) c.deref_mut-2.ensures.value ∙ scratch_count a in
    let P : ℕ → Type 0 = λ k. AreRowsFor c.args.width (length c.deref_mut-2.result.now) c.deref.result.now k c.deref_mut.result.now in
    subst P (sym e.row)
    (ready c.args.width c.args.leaving c.args.entering c.args.r c.args.p g mid c.requires.grid c.requires.leaves c.requires.enters c.requires.some e.solved e.others
    c.deref_mut.result.now c.deref.result.now (length c.deref_mut-2.result.now) (ap (λ (k : List ℤ). length k) c.deref_mut.ensures.value ∙ e.cells) c.deref_mut.ensures.value
    (c.deref.ensures.value ∙ places_same a) count)

pub returns-clause-size : goal.returns-clause-size
returns-clause-size c =
    let a = (goal.at.returns-clause-size c).After-take_pivot_row in
    let e = c.take_pivot_row.ensures in
    record {
      columns = e.columns;
      cells = ap (λ (k : List ℤ). length k) (lent_back c.take_pivot_row.new.self.cells.len c.eliminate_rows.new.cells c.take_pivot_row.new.self.cells.items (c.eliminate_rows.ensures.kept ∙ c.deref_mut.ensures.len))
          ∙ c.eliminate_rows.ensures.kept ∙ ap (λ (k : List ℤ). length k) c.deref_mut.ensures.value ∙ e.cells;
      places = ap (λ (k : List Place). length k) (places_same a) ∙ length-set (set c.args.self.now.places.items c.args.leaving (Column c.args.p)) c.args.entering (Row c.args.r) ∙ length-set c.args.self.now.places.items c.args.leaving (Column c.args.p);
      capacity = ap (λ v. v.cap) e.places;
      pivot = numbers_count a ∙ sym c.requires.grid.pivot;
      scratch = ap (λ (k : List ℤ). length k) (lent_back c.take_pivot_row.new.self.scratch.len c.eliminate_rows.new.scratch c.take_pivot_row.new.self.scratch.items (c.eliminate_rows.ensures.scratch ∙ c.deref_mut-2.ensures.len))
          ∙ c.eliminate_rows.ensures.scratch ∙ ap (λ (k : List ℤ). length k) c.deref_mut-2.ensures.value ∙ ap (λ v. length v.items) e.scratch;
    }

answer : (o : Option ℤ) (A B : Type 0) (C D : ℤ → Type 0) → (A → B) → ((z : ℤ) → C z → D z) → MatchOption o A C → MatchOption o B D
answer None A B C D f g h = f h
answer (Some z) A B C D f g h = g z h

pub returns-clause-answer : goal.returns-clause-answer
returns-clause-answer c =
    let a = (goal.at.returns-clause-answer c).After-take_pivot_row in
    let g = c.args.self.now in
    let e = c.take_pivot_row.ensures in
    let s = g.columns + 2 in
    let mid = c.take_pivot_row.new.self.cells.items in
    let now = c.eliminate_rows.new.cells in
    let places = set (set g.places.items c.args.leaving (Column c.args.p)) c.args.entering (Row c.args.r) in
    let count : length c.deref_mut-2.result.now ≡ s = ap (λ (k : List ℤ). length k) c.deref_mut-2.ensures.value ∙ scratch_count a in
    let stand : c.deref.result.now ≡ places = c.deref.ensures.value ∙ places_same a in
    let pivot = c.take_pivot_row.new.self.pivot in
    let back : (with_items c.take_pivot_row.new.self.cells now).items ≡ now = lent_back c.take_pivot_row.new.self.cells.len now mid (c.eliminate_rows.ensures.kept ∙ c.deref_mut.ensures.len) in
    let returned : (with_items c.take_pivot_row.new.self.scratch c.eliminate_rows.new.scratch).items ≡ c.eliminate_rows.new.scratch =
    lent_back c.take_pivot_row.new.self.scratch.len c.eliminate_rows.new.scratch c.take_pivot_row.new.self.scratch.items (c.eliminate_rows.ensures.scratch ∙ c.deref_mut-2.ensures.len) in
    answer c.eliminate_rows.result _ _ _ _
    (λ h.
    (let P : ℕ → Type 0 = λ k. (row_at k now pivot.row ≡ row_at k c.deref_mut.result.now pivot.row) × AreEliminated c.args.width k c.deref.result.now pivot c.deref_mut.result.now now in
    let Q : List Place → Type 0 = λ k. (row_at s now pivot.row ≡ row_at s c.deref_mut.result.now pivot.row) × AreEliminated c.args.width s k pivot c.deref_mut.result.now now in
    let R : List ℤ → Type 0 = λ k. (row_at s now pivot.row ≡ row_at s k pivot.row) × AreEliminated c.args.width s places pivot k now in
    let f = subst R c.deref_mut.ensures.value (subst Q stand (subst P count h)) in
    grid_after c.args.width c.args.leaving c.args.entering c.args.r c.args.p g mid c.requires.grid c.requires.leaves c.requires.enters c.requires.some e.solved e.others
    now (c.eliminate_rows.ensures.kept ∙ ap (λ (k : List ℤ). length k) c.deref_mut.ensures.value ∙ e.cells) (let T : ℕ → Type 0 = λ k. row_at s now k ≡ row_at s mid k in subst T e.row f.0)
    (λ v q i n.
    (let d = f.1.each v q i (λ j. n (j ∙ e.row)) in
    (plainly c.args.width c.args.leaving c.args.entering c.args.r c.args.p g mid c.requires.grid c.requires.leaves c.requires.enters c.requires.some e.solved e.others pivot e.row e.column e.denominator e.numbers _ _ d.0, d.1)))
    _ e.columns (places_same a) back (numbers_count a) (ap (λ (k : List ℤ). length k) returned ∙ c.eliminate_rows.ensures.scratch ∙ count)))
    (λ z h.
    (let P : ℕ → Type 0 = λ k. IsFirstWideRow c.args.width k c.deref.result.now pivot c.deref_mut.result.now z in
    let Q : List Place → Type 0 = λ k. IsFirstWideRow c.args.width s k pivot c.deref_mut.result.now z in
    let R : List ℤ → Type 0 = λ k. IsFirstWideRow c.args.width s places pivot k z in
    wide_pivot c.args.width c.args.leaving c.args.entering c.args.r c.args.p g mid c.requires.grid c.requires.leaves c.requires.enters c.requires.some e.solved e.others
    pivot e.row e.column e.denominator e.numbers z (subst R c.deref_mut.ensures.value (subst Q stand (subst P count h)))))
    c.eliminate_rows.ensures.answer
