use Rattle.std.proofs.Common.{◌≡◌, ◌≢◌, ℕ, ◌+◌, ◌∙◌, sym, subst, arith, ℤ, List, length}
use Rattle.strict_solver.specs.declared.place.Place.TheVariants.{Row, Column}
use Rattle.strict_solver.specs.Rows.{IsLowRow, AreNarrow}
use Rattle.strict_solver.specs.Grids.{row_at, IsEliminated}
use Rattle.strict_solver.proofs.Elimination.{Eliminating, skip, step, at_place, from_place, same_place, first_wide_row, wide_answer}
use Rattle.strict_solver.proofs.grid.eliminate_rows.Goals as goal
use Rattle.strict_solver.proofs.grid.eliminate_rows.Goals.{in-Row+else-r-pivot, else-r-pivot-via-then-r-pivot+else-not-eliminate_at, else-r-pivot-via-else-r-pivot, in_default}

pub eliminate_at-requires-clause-row : goal.eliminate_at-requires-clause-row
eliminate_at-requires-clause-row c =
    let s = length c.args.scratch.now in
    let is = at_place c.args.places.now c.loop-place.place-index (Row 0) (Row c.in-Row.r) (omega arith) c.in-Row.is in
    let P : ℕ → Type 0 = λ k. IsLowRow c.args.width (row_at k c.loop-place.cells c.in-Row.r) in
    let Q : List ℤ → Type 0 = λ row. IsLowRow c.args.width row in
    subst P (sym c.loop-place.invariant.scratch)
    (subst Q (sym (c.loop-place.invariant.rows.rest c.loop-place.place-index c.in-Row.r (omega arith) is c.if-r-pivot.true)) (c.requires.rows.low c.loop-place.place-index c.in-Row.r is c.if-r-pivot.true))

pub loop-place-preserved : goal.loop-place-preserved
loop-place-preserved c =
    let s = length c.args.scratch.now in
    let i = c.loop-place.place-index in
    let places = c.args.places.now in
    let pivot = c.args.pivot.now in
    let old = c.args.cells.now in
    let now = c.loop-place.cells in
    let width = c.args.width in
    let here = c.loop-place.invariant in
    let P : List ℤ → Type 0 = λ cells. Eliminating width s places pivot old cells (i + 1) in
    record {
      scratch = c.match-place.auto.scratch ∙ here.scratch;
      kept = c.match-place.auto.cells ∙ here.kept;
      rows = elim c.match-place.branch [
        | in-Row+else-r-pivot w ↦
            (let is = at_place places i (Row 0) (Row w.in-Row.r) (omega arith) w.in-Row.is in
            subst P (sym w.cells-is)
            (elim w.else-r-pivot.branch [
              | else-r-pivot-via-then-r-pivot+else-not-eliminate_at v ↦
                  (let e = v.eliminate_at.ensures in
                  let Q : ℕ → Type 0 = λ k. (q : ℕ) → q ≢ w.in-Row.r → row_at k v.eliminate_at.new.cells q ≡ row_at k now q in
                  let R : ℕ → Type 0 = λ k. IsEliminated pivot (row_at k now w.in-Row.r) (row_at k v.eliminate_at.new.cells w.in-Row.r) × AreNarrow width (row_at k v.eliminate_at.new.cells w.in-Row.r) in
                  let form = subst R here.scratch v.if-not-eliminate_at.ensures.answer in
                  subst P (sym v.cells-is)
                  (step width s places pivot old now v.eliminate_at.new.cells i w.in-Row.r here.rows c.requires.rows.apart is v.if-r-pivot.true (subst Q here.scratch e.others) form.0 form.1))
              | else-r-pivot-via-else-r-pivot v ↦
                  subst P (sym v.cells-is)
                  (skip width s places pivot old now i here.rows
                  (λ r f n. n (let g : Row w.in-Row.r ≡ Row r = same_place places i _ _ is f in let h : w.in-Row.r ≡ r = cc in sym h ∙ v.if-r-pivot.false)))
            ]))
        | in_default w ↦
            (let is = at_place places i (Row 0) (Column w.in_default.field-0) (omega arith) w.in_default.is in
            subst P (sym w.cells-is)
            (skip width s places pivot old now i here.rows (λ r f n. let g : Column w.in_default.field-0 ≡ Row r = same_place places i _ _ is f in cc)))
      ];
    }

pub returns-then-not-eliminate_at-clause-answer : goal.returns-then-not-eliminate_at-clause-answer
returns-then-not-eliminate_at-clause-answer c =
    let s = length c.args.scratch.now in
    let i = c.loop-place.place-index in
    let places = c.args.places.now in
    let here = c.loop-place.invariant in
    let row = c.eliminate_at.new.scratch in
    let is = at_place places i (Row 0) (Row c.in-Row.r) (omega arith) c.in-Row.is in
    let a = c.if-not-eliminate_at.ensures.answer in
    let R : ℕ → Type 0 = λ k. IsEliminated c.args.pivot.now (row_at k c.loop-place.cells c.in-Row.r) row in
    wide_answer c.args.width s places row c.first_wide_number.result _ _ (c.eliminate_at.ensures.scratch ∙ here.scratch) c.requires.rows.taken a.1 c.first_wide_number.ensures
    (λ z e. first_wide_row c.args.width s places c.args.pivot.now c.args.cells.now c.loop-place.cells i c.in-Row.r row z here.rows is c.if-r-pivot.true (subst R here.scratch a.0) e)

pub returns-clause-answer : goal.returns-clause-answer
returns-clause-answer c =
    let here = c.loop-place.invariant.rows in
    (here.pivot_same, record { each = λ v r e n. here.done v r (let h = from_place c.args.places.now v (Row 0) (Row r) e in let l = h.0 in omega arith) e n })
