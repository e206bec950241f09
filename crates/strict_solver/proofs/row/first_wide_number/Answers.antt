use Rattle.std.proofs.Common.{◌≡◌, ◌∙◌, sym, ap, arith, map, Some, to_z, of_z}
use Rattle.std.specs.Int.{w128}
use Rattle.std.proofs.lemmas.Int.{ints}
use Rattle.std.proofs.lemmas.List.{at_drop_all}
use Rattle.ntfe_model.specs.Solver.{first_wide}
use Rattle.strict_solver.specs.Rows.{number, number_at}
use Rattle.strict_solver.proofs.Wide.{narrow_column, wide_column, skipped_row, line_first_wide}
use Rattle.strict_solver.proofs.row.first_wide_number.Goals as goal
use Rattle.strict_solver.proofs.row.first_wide_number.Goals.{in-Column+else-is_wide-3, in_default}

pub loop-place-preserved : goal.loop-place-preserved
loop-place-preserved c =
    let i = c.loop-place.place-index in
    elim c.match-place.branch [
      | in-Column+else-is_wide-3 w ↦
          c.loop-place.invariant
          ∙ narrow_column c.args.width c.args.numbers.now c.args.places.now i (omega arith) w.in-Column.p w.in-Column.is (sym w.is_wide-in-Column.ensures ∙ w.if-is_wide-3.false)
      | in_default w ↦ c.loop-place.invariant ∙ skipped_row c.args.width c.args.numbers.now c.args.places.now i (omega arith) w.in_default.field-0 w.in_default.is
    ]

pub returns : goal.returns
returns c =
    sym (line_first_wide c.args.width c.args.places.now c.args.numbers.now (sym c.is_wide.ensures ∙ c.if-is_wide.false) (sym c.is_wide-2.ensures ∙ c.if-is_wide-2.false)
    ∙ c.loop-place.invariant
    ∙ at_drop_all (λ ps. first_wide c.args.width (map (number_at c.args.numbers.now) ps)) c.args.places.now c.loop-place.place-index (omega arith))

pub returns-then-is_wide-3 : goal.returns-then-is_wide-3
returns-then-is_wide-3 c =
    let z = number c.args.numbers.now c.in-Column.p in
    let word : to_z w128 (of_z w128 z) ≡ z = omega (arith, ints) in
    ap Some word
    ∙ sym (line_first_wide c.args.width c.args.places.now c.args.numbers.now (sym c.is_wide.ensures ∙ c.if-is_wide.false) (sym c.is_wide-2.ensures ∙ c.if-is_wide-2.false)
    ∙ c.loop-place.invariant
    ∙ wide_column c.args.width c.args.numbers.now c.args.places.now c.loop-place.place-index (omega arith) c.in-Column.p c.in-Column.is (sym c.is_wide-in-Column.ensures ∙ c.if-is_wide-3.true))
